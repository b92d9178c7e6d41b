-- `types::type_at` meets its contract: what was read says its row's words.
use mathlib.Core.Path.{ap, ◌∙◌}
use Rattle.types.specs.tables.Lent.{type_row}
use Rattle.types.proofs.tables.rows.RowWords.{type_said_lem}
use Rattle.types.proofs.tables.rows.type_at.Goals as goal

pub returns-then-i-lt-TYPES : goal.returns-then-i-lt-TYPES
returns-then-i-lt-TYPES c = ap type_row c.type_row.ensures ∙ type_said_lem _ _

pub returns-else-i-lt-TYPES : goal.returns-else-i-lt-TYPES
returns-else-i-lt-TYPES c = ap type_row c.type_past.ensures ∙ type_said_lem _ _
