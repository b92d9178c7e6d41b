-- Sizes (document 01, "Atomic types" and "Layout"): a type's bytes, those of the structures in a table, and the bits of
-- a member.
use Rattle.std.specs.Prelude.{ℕ, ◌*◌, List, Option, Some, None}
use Rattle.types.specs.atomics.Atomic.{size_of}
use Rattle.types.specs.layout.Placing.{times}
use Rattle.types.specs.tables.Lent.{type_at}
use Rattle.types.specs.declared.tables.member.Member.{Member}
use Rattle.types.specs.declared.tables.member.Ty.{Ty}
use Rattle.types.specs.declared.tables.member.Ty.TheVariants.{Atomic, Struct}

-- a type's bytes, where the structures' sizes are known by their numbers
abbrev pub size_in : (ℕ → ℕ) → Ty → ℕ
size_in sizes (Atomic a) = size_of a
size_in sizes (Struct n) = sizes n

-- the bits of a member: one for a BOOL of a structure, else those of its elements
abbrev pub bits_of : (ℕ → ℕ) → Option ℕ → Member → ℕ
bits_of sizes (Some k) m = 1
bits_of sizes None m = 8 * (size_in sizes m.ty * times m.count)

-- the sizes of the structures in a table, by their numbers
abbrev pub sizes_in : List ℕ → ℕ → ℕ
sizes_in types n = (type_at types n).size
