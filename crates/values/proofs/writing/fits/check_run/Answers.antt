-- `values::fits::check_run` meets its contract: bit strings take bools if the first entry is one, else whole numbers
-- (document 01, "Writing").
use mathlib.Core.Path.{sym, ◌∙◌}
use Rattle.values.proofs.writing.fits.FitLeafLaws.{run_of_bools, run_of_numbers, run_of_wholes}
use Rattle.values.proofs.writing.fits.check_run.Goals as goal
use Rattle.values.proofs.writing.fits.check_run.Goals.{else-is_bit_string-via-else-is_bit_string}
use Rattle.values.proofs.writing.fits.check_run.Goals.{else-is_bit_string-via-then-is_bit_string+else-kind_at-eq-BOOL}

pub returns-then-kind_at-eq-BOOL : goal.returns-then-kind_at-eq-BOOL
returns-then-kind_at-eq-BOOL c =
    run_of_bools c.requires.well_formed.0 c.kind_at.ensures c.args.a c.args.count
    (sym c.is_bit_string.ensures ∙ c.if-is_bit_string.true) c.if-kind_at-eq-BOOL.true c.size.ensures
    c.check_bools.ensures

pub returns : goal.returns
returns c =
    elim c.else-is_bit_string.branch [
      | else-is_bit_string-via-then-is_bit_string+else-kind_at-eq-BOOL w ↦ run_of_wholes c.requires.well_formed.0
          w.kind_at.ensures
          c.args.a c.args.count (sym c.is_bit_string.ensures ∙ w.if-is_bit_string.true) w.if-kind_at-eq-BOOL.false
          c.check_numbers.ensures
      | else-is_bit_string-via-else-is_bit_string w ↦ run_of_numbers c.args.a c.args.count
          (sym c.is_bit_string.ensures ∙ w.if-is_bit_string.false) c.check_numbers.ensures
    ]
