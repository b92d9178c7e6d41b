-- `values::clear` meets its contract. The invariant: storing all is storing what is left in what stands now.
use Rattle.values.proofs.writing.sets.SetLaws.{Clearing}
use Rattle.values.proofs.writing.sets.clear.Given as goal

abbrev pub invariant-loop-i : goal.invariant-loop-i
invariant-loop-i l = Clearing l.initial.image l.at l.n l.image l.i
