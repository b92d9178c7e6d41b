-- `values::store_entry` meets its contract: an entry is its kind and its payload, and has room or is not stored.
use mathlib.Core.Path.{sym, ◌∙◌}
use Rattle.values.proofs.stream.EntryLaws.{stored_nowhere, stored_there}
use Rattle.values.proofs.stream.entry.store_entry.Goals as goal

pub returns-then-not-is_inside : goal.returns-then-not-is_inside
returns-then-not-is_inside c = stored_nowhere (sym c.is_inside.ensures ∙ c.if-not-is_inside.true)

pub returns : goal.returns
returns c =
    stored_there (sym c.is_inside.ensures ∙ c.if-not-is_inside.false)
    (rw (← c.kind.ensures, ← c.payload.ensures) c.put_entry.ensures)
