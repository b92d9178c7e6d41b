-- `types::pick_id` meets its contract, one law for each way out.
use Rattle.types.proofs.adding.IdLaws.{pick_low, pick_high, pick_used, pick_given, pick_lowest, pick_none}
use Rattle.types.proofs.adding.ids.pick_id.Goals as goal
use Rattle.types.proofs.adding.ids.pick_id.Goals.{then-id-lt256-via-then-id-lt256}
use Rattle.types.proofs.adding.ids.pick_id.Goals.{then-id-lt256-via-else-id-lt256+then-id-gt3839}

pub returns-then-id-lt256 : goal.returns-then-id-lt256
returns-then-id-lt256 c =
    rw c.if-given.true
    (elim c.then-id-lt256.branch [
      | then-id-lt256-via-then-id-lt256 w ↦ pick_low _ _ w.if-id-lt256.true
      | then-id-lt256-via-else-id-lt256+then-id-gt3839 w ↦ pick_high _ _ w.if-id-lt256.false w.if-id-gt3839.true
    ])

pub returns-then-in_use : goal.returns-then-in_use
returns-then-in_use c =
    rw c.if-given.true
    (pick_used _ c.args.id c.if-id-lt256.false c.if-id-gt3839.false _ (rw c.from.ensures at c.in_use.ensures)
    c.if-in_use.true)

pub returns-then-given : goal.returns-then-given
returns-then-given c =
    rw c.if-given.true
    (pick_given _ c.args.id c.if-id-lt256.false c.if-id-gt3839.false _ (rw c.from.ensures at c.in_use.ensures)
    c.if-in_use.false)

pub returns-then-lowest-lt3840 : goal.returns-then-lowest-lt3840
returns-then-lowest-lt3840 c =
    rw c.if-given.false
    (pick_lowest c.args.types.now c.args.n c.args.id c.free_id-lowest.ensures c.if-lowest-lt3840.true)

pub returns-else-lowest-lt3840 : goal.returns-else-lowest-lt3840
returns-else-lowest-lt3840 c =
    rw c.if-given.false
    (pick_none c.args.types.now c.args.n c.args.id c.free_id-lowest.ensures c.if-lowest-lt3840.false)
