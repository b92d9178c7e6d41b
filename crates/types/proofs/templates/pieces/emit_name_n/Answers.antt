-- `types::emit_name_n` meets its contract: two pieces are one.
use Rattle.types.proofs.templates.SinkLaws.{came_both}
use Rattle.types.proofs.templates.pieces.emit_name_n.Goals as goal

pub returns : goal.returns
returns c = came_both c.emit_name-k.ensures c.emit.ensures
