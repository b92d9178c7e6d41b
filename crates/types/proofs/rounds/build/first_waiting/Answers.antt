-- `types::first_waiting` meets its contract. The invariant: none of the types so far waits.
use Rattle.types.proofs.rounds.WaitLaws.{passed_on, passed_found, passed_done}
use Rattle.types.proofs.rounds.build.first_waiting.Goals as goal

pub returns-then-done-i-eq0 : goal.returns-then-done-i-eq0
returns-then-done-i-eq0 c = passed_found c.loop-i.invariant c.loop-i-test.true c.if-done-i-eq0.true

pub loop-i-preserved : goal.loop-i-preserved
loop-i-preserved c = passed_on c.loop-i.invariant c.loop-i-test.true c.if-done-i-eq0.false

pub returns : goal.returns
returns c = passed_done c.loop-i.invariant c.loop-i-test.false
