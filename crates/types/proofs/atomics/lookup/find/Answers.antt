-- `types::find` meets its contract: all types that stand in the tables are looked through.
use mathlib.Core.Path.{ap, ◌∙◌}
use Rattle.types.specs.atomics.Lookup.{said_by}
use Rattle.types.proofs.atomics.lookup.LookupLaws.{among_said}
use Rattle.types.proofs.tables.KeptLaws.{kept_inside}
use Rattle.types.proofs.atomics.lookup.find.Goals as goal

pub lookup-requires : goal.lookup-requires
lookup-requires c = rw c.type_count.ensures (kept_inside c.requires.kept)

pub returns : goal.returns
returns c = ap said_by c.lookup.ensures ∙ rw c.type_count.ensures (among_said _ _)
