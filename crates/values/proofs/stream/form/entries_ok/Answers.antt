-- `values::entries_ok` meets its contract, by what is left of the entries.
use Rattle.std.proofs.Common.{Some, None, arith}
use Rattle.values.proofs.stream.FormLaws.{left_on, left_broken, left_done, words_moved}
use Rattle.values.proofs.stream.form.entries_ok.Goals as goal

pub returns-in_default : goal.returns-in_default
returns-in_default c =
    left_broken c.loop-k.invariant c.loop-k-test.true
    (words_moved _ _ c.loop-k.place None (omega arith) c.load.ensures c.load-in-loop-k.ensures
    c.load-in-loop-k-2.ensures c.in_default.ensures)

pub loop-k-preserved : goal.loop-k-preserved
loop-k-preserved c =
    left_on c.loop-k.invariant c.loop-k-test.true
    (words_moved _ _ c.loop-k.place (Some c.in-Some.next) (omega arith) c.load.ensures c.load-in-loop-k.ensures
    c.load-in-loop-k-2.ensures c.in-Some.ensures)

pub returns : goal.returns
returns c = left_done c.loop-k.invariant c.loop-k-test.false
