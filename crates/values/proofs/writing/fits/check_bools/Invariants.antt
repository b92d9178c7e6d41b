-- `values::fits::check_bools` meets its contract: bools up to the close, at most eight for each byte (document 01,
-- "Writing").
use Prim.Native.Nat.{◌*◌}
use Rattle.values.specs.reading.Leaf.{flag}
use Rattle.values.specs.writing.Effects.{taken}
use Rattle.values.proofs.writing.fits.FitRunLaws.{Walked}
use Rattle.values.proofs.writing.fits.check_bools.Given as goal

abbrev pub invariant-loop-p : goal.invariant-loop-p
invariant-loop-p l = Walked l.s (taken flag) (8 * l.bytes) l.k l.p
