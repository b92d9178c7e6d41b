-- `values::put_truths`: so far one entry for each BOOL.
use Rattle.values.proofs.reading.runs.RunLaws.{NumbersRun, truth_tokens}
use Rattle.values.proofs.reading.runs.put_truths.Given as goal

abbrev pub invariant-loop-i : goal.invariant-loop-i
invariant-loop-i l = NumbersRun (truth_tokens l.s) l.n l.initial.out l.at l.out l.p l.i
