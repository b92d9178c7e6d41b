-- `values::put_eight`: so far an entry for each of the lowest bits.
use Rattle.values.proofs.reading.atomics.BitRunLaws.{LowBits}
use Rattle.values.proofs.reading.atomics.put_eight.Given as goal

abbrev pub invariant-loop-k : goal.invariant-loop-k
invariant-loop-k l = LowBits l.x l.initial.out l.at l.k l.out
