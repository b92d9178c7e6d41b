-- `types::type_row` meets its contract: each field is read from its own word.
use Rattle.types.specs.tables.Lent.{type_at}
use Rattle.types.proofs.tables.lent.type_row.Goals as goal

pub returns : goal.returns
unfolding type_at
returns c = rw c.kind_of.ensures
