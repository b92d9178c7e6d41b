-- The atomic types (document 01, "Atomic types"): codes, sizes and names in the document's order, and the atomic of a
-- name or of a code.
use Rattle.std.specs.Prelude.{ℕ, ◌-◌, ◌<◌, Bool, cond, not, ◌&&◌, List, [], ◌∷◌, ◌++◌, ◌≡◌, eqb, leb, length, get_or}
use Rattle.std.specs.Prelude.{Option, Some, None}
use Rattle.std.specs.Prelude.{replicate}
use Rattle.types.specs.book.Names.{same_name}
use Rattle.types.specs.refusals.Said.{Said, done, refused}
use Rattle.types.specs.declared.atomics.atomic.Atomic.{Atomic}
use Rattle.types.specs.declared.atomics.atomic.Atomic.TheVariants.{Bool as BOOL, SInt, Int, DInt, LInt, USInt}
use Rattle.types.specs.declared.atomics.atomic.Atomic.TheVariants.{UInt, UDInt, ULInt, Real, LReal, Byte, Word}
use Rattle.types.specs.declared.atomics.atomic.Atomic.TheVariants.{DWord, LWord}
use Rattle.types.specs.declared.atomics.atomic.AtomicRow.{AtomicRow}

-- the fifteen, in order
abbrev pub atomics : List Atomic
atomics =
    BOOL ∷ SInt ∷ Int ∷ DInt ∷ LInt ∷ USInt ∷ UInt ∷ UDInt ∷ ULInt ∷ Real ∷ LReal
    ∷ Byte ∷ Word ∷ DWord ∷ LWord ∷ []

-- the atomic at a place of the list, BOOL past its end
unfoldable pub atomic_at : ℕ → Atomic
atomic_at i = get_or atomics i BOOL

-- an atomic's place in the list
abbrev pub num_of : Atomic → ℕ
num_of BOOL = 0
num_of SInt = 1
num_of Int = 2
num_of DInt = 3
num_of LInt = 4
num_of USInt = 5
num_of UInt = 6
num_of UDInt = 7
num_of ULInt = 8
num_of Real = 9
num_of LReal = 10
num_of Byte = 11
num_of Word = 12
num_of DWord = 13
num_of LWord = 14

-- codes C1 to CB, and D1 to D4
abbrev codes : List ℕ
codes =
    0xC1 ∷ 0xC2 ∷ 0xC3 ∷ 0xC4 ∷ 0xC5 ∷ 0xC6 ∷ 0xC7 ∷ 0xC8 ∷ 0xC9 ∷ 0xCA ∷ 0xCB
    ∷ 0xD1 ∷ 0xD2 ∷ 0xD3 ∷ 0xD4 ∷ []

-- sizes 1, 1, 2, 4, 8, 1, 2, 4, 8, 4, 8, 1, 2, 4, 8
abbrev sizes : List ℕ
sizes = 1 ∷ 1 ∷ 2 ∷ 4 ∷ 8 ∷ 1 ∷ 2 ∷ 4 ∷ 8 ∷ 4 ∷ 8 ∷ 1 ∷ 2 ∷ 4 ∷ 8 ∷ []

unfoldable pub code_of : Atomic → ℕ
code_of a = get_or codes (num_of a) 0

-- the code of the atomic at a place, BOOL's past the last
unfoldable pub code_at : ℕ → ℕ
code_at i = get_or codes i 0xC1

unfoldable pub size_of : Atomic → ℕ
size_of a = get_or sizes (num_of a) 0

-- the names' bytes
unfoldable pub name_of : Atomic → List ℕ
name_of BOOL = 66 ∷ 79 ∷ 79 ∷ 76 ∷ []
name_of SInt = 83 ∷ 73 ∷ 78 ∷ 84 ∷ []
name_of Int = 73 ∷ 78 ∷ 84 ∷ []
name_of DInt = 68 ∷ 73 ∷ 78 ∷ 84 ∷ []
name_of LInt = 76 ∷ 73 ∷ 78 ∷ 84 ∷ []
name_of USInt = 85 ∷ 83 ∷ 73 ∷ 78 ∷ 84 ∷ []
name_of UInt = 85 ∷ 73 ∷ 78 ∷ 84 ∷ []
name_of UDInt = 85 ∷ 68 ∷ 73 ∷ 78 ∷ 84 ∷ []
name_of ULInt = 85 ∷ 76 ∷ 73 ∷ 78 ∷ 84 ∷ []
name_of Real = 82 ∷ 69 ∷ 65 ∷ 76 ∷ []
name_of LReal = 76 ∷ 82 ∷ 69 ∷ 65 ∷ 76 ∷ []
name_of Byte = 66 ∷ 89 ∷ 84 ∷ 69 ∷ []
name_of Word = 87 ∷ 79 ∷ 82 ∷ 68 ∷ []
name_of DWord = 68 ∷ 87 ∷ 79 ∷ 82 ∷ 68 ∷ []
name_of LWord = 76 ∷ 87 ∷ 79 ∷ 82 ∷ 68 ∷ []

-- the row that the code's table has for an atomic: its name is padded with zeros to five bytes
unfoldable pub row_of : Atomic → AtomicRow
row_of a = (code_of a, size_of a, length (name_of a), name_of a ++ replicate (5 - length (name_of a)) 0)

pub record Numbered (a : Atomic) (r : ℕ) : Type 0 where
  pub is : r ≡ num_of a
  pub small : r < 15

-- the last four are bit strings
unfoldable pub bit_string : Atomic → Bool
bit_string a = leb 11 (num_of a)

-- all but BOOL, REAL and LREAL
unfoldable pub has_bits : Atomic → Bool
has_bits a = not (eqb (num_of a) 0) && not (eqb (num_of a) 9) && not (eqb (num_of a) 10)

-- the first atomic of a list that passes a test
unfoldable pub first_of : (Atomic → Bool) → List Atomic → Option Atomic
first_of p [] = None
first_of p (a ∷ rest) = cond (p a) (Some a) (first_of p rest)

unfoldable pub atomic_named : List ℕ → Option Atomic
atomic_named s = first_of (λ a. same_name (name_of a) s) atomics

-- ---- the answers, in codes

-- what an answer says: the atomic's code, or that no type is such
abbrev pub said_by : Option Atomic → Said ℕ
said_by (Some a) = done (code_of a)
said_by None = refused 15 0

-- the code of the first atomic of a list that passes a test
unfoldable pub first_code : (Atomic → Bool) → List Atomic → Said ℕ
first_code p [] = refused 15 0
first_code p (a ∷ rest) = cond (p a) (done (code_of a)) (first_code p rest)

-- the code of a name, without ASCII case
unfoldable pub code_named : List ℕ → Said ℕ
code_named s = first_code (λ a. same_name (name_of a) s) atomics

-- a code, where an atomic has it
unfoldable pub code_given : ℕ → Said ℕ
code_given c = first_code (λ a. eqb (code_of a) c) atomics
