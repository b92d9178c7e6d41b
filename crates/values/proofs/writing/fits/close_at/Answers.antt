-- `values::fits::close_at` meets its contract: after the last place only the close fits (document 01, "Writing").
use native.Mathlib.Omega.{arith}
use Rattle.values.proofs.writing.fits.FitRunLaws.{end_closes, end_full, end_missing, few}
use Rattle.values.proofs.writing.fits.close_at.Goals as goal

pub overflow_cast-result : goal.overflow_cast-result
overflow_cast-result c = omega (arith, few c.requires.0, c.requires.1)

pub returns-then-n-k : goal.returns-then-n-k
returns-then-n-k c = end_missing c.requires.0 c.requires.1 c.if-n-k.true

pub returns-then-kind_of-eq-ARRAY_CLOSE : goal.returns-then-kind_of-eq-ARRAY_CLOSE
returns-then-kind_of-eq-ARRAY_CLOSE c =
    end_closes c.requires.0 c.kind_of.ensures c.if-kind_of-eq-ARRAY_CLOSE.true

pub overflow_cast-result-2 : goal.overflow_cast-result-2
overflow_cast-result-2 c = omega (arith, few c.requires.0, c.requires.1)

pub returns : goal.returns
returns c =
    end_full c.requires.0 (omega (arith, c.if-n-k.false)) c.kind_of.ensures c.if-kind_of-eq-ARRAY_CLOSE.false
