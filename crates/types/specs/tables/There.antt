-- Whether there is such a type (document 01, "Refusal numbers": 15): an atomic, or a structure of the table.
use Rattle.std.specs.Prelude.{ℕ, Bool, true, List}
use Rattle.types.specs.templates.Template.{has_template}
use Rattle.types.specs.declared.tables.member.Ty.{Ty}
use Rattle.types.specs.declared.tables.member.Ty.TheVariants.{Atomic, Struct}

-- an atomic is always there; a structure where the table has it, as for its template
abbrev pub is_there : List ℕ → Ty → Bool
is_there types (Atomic a) = true
is_there types (Struct n) = has_template types (Struct n)
