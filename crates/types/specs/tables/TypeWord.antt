-- A type as templates and symbol types say it (document 01, "Template and handle" and "Tag shape"): its code, or 0x8000
-- plus its template id.
use Rattle.std.specs.Prelude.{ℕ, ◌+◌, List}
use Rattle.types.specs.atomics.Atomic.{code_of}
use Rattle.types.specs.tables.Lent.{type_at}
use Rattle.types.specs.declared.tables.member.Ty.{Ty}
use Rattle.types.specs.declared.tables.member.Ty.TheVariants.{Atomic, Struct}

-- code, or 0x8000 plus the id of the structure
abbrev pub type_in : (ℕ → ℕ) → Ty → ℕ
type_in ids (Atomic a) = code_of a
type_in ids (Struct n) = 0x8000 + ids n

-- the ids of the structures in a table, by their numbers
abbrev pub ids_in : List ℕ → ℕ → ℕ
ids_in types n = (type_at types n).id
