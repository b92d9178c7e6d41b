-- Lines put into a buffer field by field (document 01, end of "Reference cases"): what each field asks and leaves, and
-- how long a line can be.
use Rattle.std.specs.Prelude.{ℕ, ◌+◌, ◌<◌, ◌≤◌, List, ◌≡◌, length}
use Rattle.std.proofs.lemmas.List.Edits.{sets}
use Rattle.types.specs.inside.templates.Waste.{Countable}
use Rattle.types.specs.tables.Lent.{member_at, name_at, type_at}
use Rattle.types.specs.tables.Limits.{most_types, most_names}
use Rattle.types.specs.declared.tables.member.Span.{Span}
use Rattle.types.specs.declared.tables.member.StructDef.{StructDef}
use Rattle.types.specs.declared.tables.member.Ty.{Ty}
use Rattle.types.specs.declared.tables.member.Ty.TheVariants.{Atomic, Struct}

-- a name that lies inside the names, and is short enough for a line of 512 bytes
pub record Short (s : Span) : Type 0 where
  pub inside : s.at + s.long ≤ most_names
  pub most : s.long ≤ 200

-- a structure's number with such a name
pub record StructNamed (types : List ℕ) (n : ℕ) : Type 0 where
  pub row : n < most_types
  pub name : Short (type_at types n).name

abbrev pub TypeNamed : List ℕ → Ty → Type 0
TypeNamed types (Atomic a) = Unit {0}
TypeNamed types (Struct n) = StructNamed types n

-- a structure whose waste can be counted, with short names
pub record Listable (types members : List ℕ) (d : StructDef) : Type 0 where
  pub rows : Countable types members d
  pub name : Short d.name
  pub names : (k : ℕ) → k < d.count → Short (name_at members (d.first + k))
  pub tys : (k : ℕ) → k < d.count → TypeNamed types (member_at members (d.first + k)).ty

-- the bytes s fit into a buffer, from a place on
pub record FieldFits (s : List ℕ) (at : ℕ) (out : List ℕ) : Type 0 where
  pub room : at + length s ≤ length out

-- the bytes s were put into a buffer, from a place on: the place after them, and what the buffer then holds
pub record FieldPut (s : List ℕ) (at : ℕ) (out : List ℕ) (r : ℕ) (left : List ℕ) : Type 0 where
  pub next : r ≡ at + length s
  pub bytes : left ≡ sets out at s

-- a line was put at a buffer's start: its length, and what the buffer then holds
pub record Lined (s out : List ℕ) (r : ℕ) (left : List ℕ) : Type 0 where
  pub long : r ≡ length s
  pub room : length s ≤ length out
  pub bytes : left ≡ sets out 0 s
