-- `values::set_eights` meets its contract. So far: the first 8 * b bools.
use Prim.Native.Nat.{◌*◌}
use Rattle.values.proofs.writing.bools.BoolLaws.{BoolsSet}
use Rattle.values.proofs.writing.bools.set_eights.Given as goal

abbrev pub invariant-loop-b : goal.invariant-loop-b
invariant-loop-b l = BoolsSet l.s l.k (8 * l.base) l.initial.image (8 * l.b) l.image
