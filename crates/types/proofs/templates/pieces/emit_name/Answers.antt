-- `types::emit_name` meets its contract: the part of the table is the name.
use Rattle.std.proofs.Common.{refl}
use Rattle.types.proofs.tables.DefLaws.{lent_name}
use Rattle.types.proofs.templates.pieces.emit_name.Goals as goal

pub emit-requires : goal.emit-requires
emit-requires c = rw (lent_name c.args.names.now c.args.name refl refl) c.requires.1

pub returns : goal.returns
returns c = rw (lent_name c.args.names.now c.args.name refl refl) at c.emit.ensures
