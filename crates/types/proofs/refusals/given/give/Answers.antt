-- `types::give` meets its contract: with room, and without it.
use Rattle.types.proofs.refusals.GivenLaws.{given_none, given_room}
use Rattle.types.proofs.refusals.given.give.Goals as goal

pub returns-then-out-s : goal.returns-then-out-s
returns-then-out-s c = given_none c.if-out-s.true

pub returns : goal.returns
returns c =
    rw c.copy.ensures (given_room c.if-out-s.false)
