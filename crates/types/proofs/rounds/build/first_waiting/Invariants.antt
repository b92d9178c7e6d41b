-- What the loop of `types::first_waiting` keeps: none of the types so far waits.
use Rattle.types.proofs.rounds.WaitLaws.{NoneWaits}
use Rattle.types.proofs.rounds.build.first_waiting.Given as goal

abbrev pub invariant-loop-i : goal.invariant-loop-i
invariant-loop-i l = NoneWaits l.done l.t l.i
