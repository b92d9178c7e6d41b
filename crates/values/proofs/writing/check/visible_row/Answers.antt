-- `values::visible_row` meets its contract: a member too large or hidden has no row.
use Rattle.values.proofs.writing.check.CheckRows.{row_past, row_hidden, row_shown}
use Rattle.values.proofs.writing.check.visible_row.Goals as goal

pub returns-then-count-j : goal.returns-then-count-j
returns-then-count-j c = row_past _ _ _ _ c.if-count-j.true

pub returns-then-member_row : goal.returns-then-member_row
returns-then-member_row c = row_hidden _ _ _ _ c.member_row.ensures c.if-count-j.false c.if-member_row.true

pub returns-else-member_row : goal.returns-else-member_row
returns-else-member_row c = row_shown _ _ _ _ c.member_row.ensures c.if-count-j.false c.if-member_row.false
