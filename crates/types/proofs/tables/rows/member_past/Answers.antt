-- `types::member_past` meets its contract: every word past the end reads as 0.
use Rattle.types.proofs.tables.rows.PastLaws.{member_past}
use Rattle.types.proofs.tables.rows.member_past.Goals as goal

pub returns : goal.returns
returns c = member_past c.args.members.now c.args.row c.requires
