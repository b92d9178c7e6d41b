-- A type's header (document 01, "Atomic types"): code and 0, or A0 02 and the handle; 15 where there is no such type.
use Rattle.std.specs.Prelude.{ℕ, cond, List, [], ◌∷◌, ◌++◌, length, take}
use Rattle.words.specs.Words.{bytes_of}
use Rattle.types.specs.atomics.Atomic.{code_of}
use Rattle.types.specs.refusals.Said.{Said, done, refused}
use Rattle.types.specs.tables.Lent.{type_at}
use Rattle.types.specs.tables.There.{is_there}
use Rattle.types.specs.declared.atomics.header.Header.{Header}
use Rattle.types.specs.declared.tables.member.Ty.{Ty}
use Rattle.types.specs.declared.tables.member.Ty.TheVariants.{Atomic, Struct}

abbrev pub header_of : (ℕ → ℕ) → Ty → List ℕ
header_of handles (Atomic a) = code_of a ∷ 0 ∷ []
header_of handles (Struct n) = 0xA0 ∷ 0x02 ∷ bytes_of 2 (handles n)

-- the handles of the structures in a table
abbrev pub handles_in : List ℕ → ℕ → ℕ
handles_in types n = (type_at types n).handle

-- at most four bytes as code has them, with zeros after them
abbrev pub header_held : List ℕ → Header
header_held s = record { bytes = take 4 (s ++ 0 ∷ 0 ∷ 0 ∷ 0 ∷ []); long = length s }

unfoldable pub headed_of : List ℕ → Ty → Said Header
headed_of types ty =
    cond (is_there types ty) (done (header_held (header_of (handles_in types) ty))) (refused 15 0)
