-- `values::is_plain` meets its contract: an answer for each kind of row.
use Rattle.values.proofs.reading.rows.NestedLaws.{plain_bit, plain_free}
use Rattle.values.proofs.reading.rows.is_plain.Goals as goal

pub returns-then-is_none : goal.returns-then-is_none
returns-then-is_none c = plain_free c.member_row-m.ensures c.is_none.ensures c.if-is_none.true

pub returns-else-is_none : goal.returns-else-is_none
returns-else-is_none c = plain_bit c.member_row-m.ensures c.is_none.ensures c.if-is_none.false
