-- `values::fits::check_bools` meets its contract: bools up to the close, at most eight for each byte (document 01,
-- "Writing").
use Prim.Native.Nat.{◌*◌}
use native.Mathlib.Omega.{arith}
use Rattle.values.specs.reading.Leaf.{flag}
use Rattle.values.specs.writing.Effects.{taken}
use Rattle.values.proofs.writing.fits.FitRunLaws.{NextFits, asked, bool_on, bool_refused, next_closes}
use Rattle.values.proofs.writing.fits.FitRunLaws.{next_low, walked_done, walked_start}
use Rattle.values.proofs.writing.fits.check_bools.Goals as goal
use Rattle.values.proofs.writing.fits.check_bools.Goals.{After-kind_of}

pub loop-p-init : goal.loop-p-init
loop-p-init c = walked_start (taken flag) (8 * c.args.bytes) c.requires.0 c.requires.1

pub kind_of-requires : goal.kind_of-requires
kind_of-requires c = asked c.requires.0 (omega (arith, c.after-last.ensures, c.loop-p-test.true))

-- the entry at hand
next : (c : After-kind_of)
    → let a = c.args in
    NextFits a.s.now (taken flag) a.n (8 * a.bytes) a.k c.after-last.result c.loop-p.p c.kind_of.result
next c =
    record {
      told = c.requires.0;
      walked = c.loop-p.invariant;
      ends = omega (arith, c.after-last.ensures, c.saturating_mul.ensures);
      before = c.loop-p-test.true;
      shows = c.kind_of.ensures;
    }

pub returns-in-11 : goal.returns-in-11
returns-in-11 c p = next_closes (next (goal.at.returns-in-11 c).After-kind_of) c.in-11.is 1 p

pub overflow_cast-result : goal.overflow_cast-result
overflow_cast-result c = omega (arith, next_low (next (goal.at.overflow_cast-result c).After-kind_of))

pub returns-in_default : goal.returns-in_default
returns-in_default c p =
    bool_refused (next (goal.at.returns-in_default c).After-kind_of) (omega arith) (omega arith) 1 p

pub loop-p-preserved : goal.loop-p-preserved
loop-p-preserved c = bool_on (next (goal.at.loop-p-preserved c).After-kind_of) c.in-1.is

pub returns : goal.returns
returns c p =
    walked_done c.loop-p.invariant (omega (arith, c.after-last.ensures, c.saturating_mul.ensures))
    (omega (arith, c.after-last.ensures, c.requires.1)) c.close_at.ensures 1 p
