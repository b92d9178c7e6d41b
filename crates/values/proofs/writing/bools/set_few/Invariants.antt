-- `values::set_few` meets its contract. So far: the first j bools.
use Prim.Native.Nat.{◌*◌}
use Rattle.values.proofs.writing.bools.BoolLaws.{BoolsSet}
use Rattle.values.proofs.writing.bools.set_few.Given as goal

abbrev pub invariant-loop-j : goal.invariant-loop-j
invariant-loop-j l = BoolsSet l.s l.k (8 * l.at) l.initial.image l.j l.image
