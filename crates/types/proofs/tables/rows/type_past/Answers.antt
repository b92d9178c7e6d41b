-- `types::type_past` meets its contract: every word past the end reads as 0.
use Rattle.types.proofs.tables.rows.PastLaws.{type_past}
use Rattle.types.proofs.tables.rows.type_past.Goals as goal

pub returns : goal.returns
returns c = type_past c.args.types.now c.args.i c.requires
