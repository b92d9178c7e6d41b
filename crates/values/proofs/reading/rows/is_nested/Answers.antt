-- `values::is_nested` meets its contract: an answer for each kind of row.
use Rattle.values.proofs.reading.rows.NestedLaws.{nested_atomic, nested_by_bit, nested_by_flag}
use Rattle.values.proofs.reading.rows.is_nested.Goals as goal

pub returns-in-Atomic : goal.returns-in-Atomic
returns-in-Atomic c = nested_atomic c.member_row-m.ensures c.in-Atomic.is

pub returns-then-not-m : goal.returns-then-not-m
returns-then-not-m c = nested_by_bit c.member_row-m.ensures c.if-not-m.true c.is_none.ensures c.in-Struct.is

pub returns-else-not-m : goal.returns-else-not-m
returns-else-not-m c = nested_by_flag c.member_row-m.ensures c.if-not-m.false
