-- `types::put_name` meets its contract: the part of the table is the name.
use Rattle.std.proofs.Common.{refl}
use Rattle.types.proofs.tables.DefLaws.{lent_name}
use Rattle.types.proofs.listing.lines.put_name.Goals as goal

pub put_field-requires : goal.put_field-requires
put_field-requires c = rw (lent_name c.args.names.now c.args.name refl refl) c.requires.1

pub returns : goal.returns
returns c = rw (lent_name c.args.names.now c.args.name refl refl) at c.put_field.ensures
