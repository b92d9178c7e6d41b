-- `values::put_wide`: so far one entry for each number.
use Rattle.values.proofs.reading.runs.RunLaws.{NumbersRun, form_tokens}
use Rattle.values.proofs.reading.runs.put_wide.Given as goal

abbrev pub invariant-loop-i : goal.invariant-loop-i
invariant-loop-i g l = NumbersRun (form_tokens l.f g.W.Word.BYTES l.s) l.n l.initial.out l.at l.out l.p l.i
