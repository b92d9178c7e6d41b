-- `values::put_bits`: so far the bits of the first bytes, after the open bracket.
use Rattle.values.proofs.reading.atomics.BitRunLaws.{FirstBytes}
use Rattle.values.proofs.reading.atomics.put_bits.Given as goal

abbrev pub invariant-loop-x : goal.invariant-loop-x
invariant-loop-x l = FirstBytes l.s l.initial.out l.initial.p l.out l.p l.x-index
