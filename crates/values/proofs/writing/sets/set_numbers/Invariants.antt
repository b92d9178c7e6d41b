-- `values::set_numbers` meets its contract, by what is left of the elements.
use Rattle.values.proofs.writing.sets.SetRunLaws.{Numbers}
use Rattle.values.proofs.writing.sets.set_numbers.Given as goal

abbrev pub invariant-loop-e : goal.invariant-loop-e
invariant-loop-e l = Numbers l.count l.s l.k l.initial.image l.base l.size l.image l.e
