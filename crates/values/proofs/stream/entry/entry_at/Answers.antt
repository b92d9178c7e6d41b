-- `values::entry_at` meets its contract: the entry where its bytes are there.
use mathlib.Core.Path.{sym, ap, ◌∙◌}
use Rattle.values.specs.stream.Entry.{said_by}
use Rattle.values.proofs.stream.EntryLaws.{entry_said, nothing_said}
use Rattle.values.proofs.stream.entry.entry_at.Goals as goal

pub returns-then-not-is_inside : goal.returns-then-not-is_inside
returns-then-not-is_inside c = nothing_said _ _ (sym c.is_inside.ensures ∙ c.if-not-is_inside.true)

pub returns : goal.returns
returns c =
    ap said_by c.load_entry.ensures
    ∙ entry_said _ _ (sym c.is_inside.ensures ∙ c.if-not-is_inside.false)
