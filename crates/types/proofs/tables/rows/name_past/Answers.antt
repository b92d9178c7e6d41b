-- `types::name_past` meets its contract: every word past the end reads as 0.
use Rattle.types.proofs.tables.rows.PastLaws.{name_past}
use Rattle.types.proofs.tables.rows.name_past.Goals as goal

pub returns : goal.returns
returns c = name_past c.args.members.now c.args.row c.requires
