-- `types::member_at` meets its contract: what was read says its row's words.
use mathlib.Core.Path.{ap, ◌∙◌}
use Rattle.types.specs.tables.Lent.{member_says}
use Rattle.types.proofs.tables.rows.RowWords.{member_said_lem}
use Rattle.types.proofs.tables.rows.member_at.Goals as goal

pub returns-then-row-lt-MEMBERS : goal.returns-then-row-lt-MEMBERS
returns-then-row-lt-MEMBERS c = ap member_says c.member_row.ensures ∙ member_said_lem _ _

pub returns-else-row-lt-MEMBERS : goal.returns-else-row-lt-MEMBERS
returns-else-row-lt-MEMBERS c = ap member_says c.member_past.ensures ∙ member_said_lem _ _
