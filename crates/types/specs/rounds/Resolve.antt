-- The member types of a type that waits (document 01, "Order of building"): one is added when all its member types are
-- known. Each is found by its name; its word is kept for the layout.
use Rattle.types.specs.declared.tables.member.Ty.{Ty}
use Rattle.std.specs.Prelude.{ℕ, Bool, true, false, List, Option, Some, None}
use Rattle.types.specs.adding.Checks.{entry_of}
use Rattle.types.specs.atomics.Lookup.{type_among}
use Rattle.types.specs.book.Contents.{list_from}
use Rattle.types.specs.tables.Defs.{name_in}

-- the type name of the j-th entry from a place on
abbrev pub type_name : List ℕ → ℕ → ℕ → List ℕ
type_name book at j = name_in book (entry_of book at j).ty

-- those of n entries, from the j-th on
abbrev pub type_names : List ℕ → ℕ → ℕ → ℕ → List (List ℕ)
type_names book at j n = list_from (type_name book at) j n

abbrev pub is_found : Option Ty → Bool
is_found (Some ty) = true
is_found None = false

-- the name is an atomic's or that of one of the known types
abbrev pub has_name : List (List ℕ) → List ℕ → Bool
has_name known s = is_found (type_among known s)
