-- The type of a name: the atomics first, then the types in order (document 01, "Atomic types"; 000's lookup).
use Rattle.std.specs.Prelude.{ℕ, ◌+◌, cond, List, [], ◌∷◌, Option, Some, None}
use Rattle.types.specs.atomics.Atomic.{atomic_named, code_named, code_of}
use Rattle.types.specs.book.Contents.{list_from}
use Rattle.types.specs.book.Names.{same_name}
use Rattle.types.specs.refusals.Said.{Said, done, refused}
use Rattle.types.specs.tables.Defs.{name_in}
use Rattle.types.specs.tables.Lent.{type_at}
use Rattle.types.specs.declared.atomics.atomic.Atomic.{Atomic as AtomicType}
use Rattle.types.specs.declared.tables.member.Ty.{Ty}
use Rattle.types.specs.declared.tables.member.Ty.TheVariants.{Atomic, Struct}

-- the name of the structure in a row
abbrev pub row_name : List ℕ → List ℕ → ℕ → List ℕ
row_name types names i = name_in names (type_at types i).name

-- the first structure with a name; the structures are numbered from i on
unfoldable pub named_among : List (List ℕ) → List ℕ → ℕ → Option Ty
named_among [] s i = None
named_among (x ∷ xs) s i = cond (same_name x s) (Some (Struct i)) (named_among xs s (i + 1))

-- an atomic, else the first structure
abbrev pub atomic_or : Option AtomicType → Option Ty → Option Ty
atomic_or (Some a) other = Some (Atomic a)
atomic_or None other = other

-- the type of a name among structures with those names
unfoldable pub type_among : List (List ℕ) → List ℕ → Option Ty
type_among known s = atomic_or (atomic_named s) (named_among known s 0)

-- the names of the first n structures of the tables
abbrev pub row_names : List ℕ → List ℕ → ℕ → List (List ℕ)
row_names types names n = list_from (row_name types names) 0 n

-- ---- the answer of a search, in words

-- a type's word: an atomic's code, or 0x8000 plus a structure's number
abbrev pub word_of : Ty → ℕ
word_of (Atomic a) = code_of a
word_of (Struct n) = 0x8000 + n

-- what an answer says: the type's word, or that there is no such type
abbrev pub said_by : Option Ty → Said ℕ
said_by (Some ty) = done (word_of ty)
said_by None = refused 15 0

-- the word of the first structure with a name; the structures are numbered from i on
unfoldable pub number_among : List (List ℕ) → List ℕ → ℕ → Said ℕ
number_among [] s i = refused 15 0
number_among (x ∷ xs) s i = cond (same_name x s) (done (0x8000 + i)) (number_among xs s (i + 1))

abbrev pub or_else : Said ℕ → Said ℕ → Said ℕ
or_else (done c) other = done c
or_else (refused number place) other = other

-- the word of a name: an atomic's, else the first structure's
unfoldable pub word_among : List (List ℕ) → List ℕ → Said ℕ
word_among known s = or_else (code_named s) (number_among known s 0)
