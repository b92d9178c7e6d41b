-- `types::member_row` meets its contract: each field is read from its own word.
use Rattle.types.specs.tables.Lent.{member_at}
use Rattle.types.proofs.tables.lent.member_row.Goals as goal

pub returns : goal.returns
unfolding member_at
returns c = rw (c.bit_of.ensures, c.ty_of.ensures)
