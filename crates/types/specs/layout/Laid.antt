-- What a layout promises those who read and write values (document 01, "Layout"): every member names an earlier type,
-- lies inside the size, no two visible members share a bit, and those that are no BOOLs stand in their order. It is
-- said in bits: a BOOL is a member like any other.
use Rattle.std.specs.Prelude.{ℕ, ◌+◌, ◌*◌, ◌<◌, ◌≤◌, Bool, true, false, List, [], ◌∷◌, ◌⊎◌, ◌≡◌, Option, Some, None}
use Rattle.types.specs.tables.Defs.{Part}
use Rattle.types.specs.tables.Sizes.{size_in, bits_of}
use Rattle.types.specs.declared.layout.placing.Decl.{Decl}
use Rattle.types.specs.declared.tables.member.Member.{Member}
use Rattle.types.specs.declared.tables.member.Ty.{Ty}
use Rattle.types.specs.declared.tables.member.Ty.TheVariants.{Atomic, Struct}

-- a member's first bit: its own bit of the byte at its offset, or the first of its bytes
abbrev pub first_in : Option ℕ → ℕ → ℕ
first_in None offset = 8 * offset
first_in (Some k) offset = 8 * offset + k

abbrev pub first_bit : Member → ℕ
first_bit m = first_in m.bit m.offset

-- the bit after its last
abbrev pub past_bit : (ℕ → ℕ) → Member → ℕ
past_bit sizes m = first_bit m + bits_of sizes m.bit m

-- the type is an atomic or one of the first i
abbrev pub Earlier : ℕ → Ty → Type 0
Earlier i (Atomic a) = Unit {0}
Earlier i (Struct n) = n < i

-- two members share no bit
abbrev pub Apart : (ℕ → ℕ) → Member → Member → Type 0
Apart sizes m n = (past_bit sizes m ≤ first_bit n) ⊎ (past_bit sizes n ≤ first_bit m)

-- m, if it is visible, shares no bit with a visible one of the parts
unfoldable pub Clear : (ℕ → ℕ) → Member → List Part → Type 0
Clear sizes m [] = Unit {0}
Clear sizes m (p ∷ ps) =
    (m.hidden ≡ false → p.member.hidden ≡ false → Apart sizes m p.member) × Clear sizes m ps

-- a BOOL of a host has a bit of its own
abbrev pub has_bit : Option ℕ → Bool
has_bit None = false
has_bit (Some k) = true

-- a visible member that is no BOOL of a host
pub record Plain (m : Member) : Type 0 where
  pub visible : m.hidden ≡ false
  pub whole : m.bit ≡ None

-- m, if it is plain, ends before any plain one of the parts begins
unfoldable pub Rising : (ℕ → ℕ) → Member → List Part → Type 0
Rising sizes m [] = Unit {0}
Rising sizes m (p ∷ ps) =
    (Plain m → Plain p.member → past_bit sizes m ≤ first_bit p.member) × Rising sizes m ps

-- what holds of a member of structure i, of so many bytes, before the rest of its parts
pub record Lies (sizes : ℕ → ℕ) (i size : ℕ) (m : Member) (rest : List Part) : Type 0 where
  pub earlier : Earlier i m.ty
  pub inside : past_bit sizes m ≤ 8 * size
  pub clear : Clear sizes m rest
  pub rising : Rising sizes m rest

-- the parts of structure i, of so many bytes, where the sizes of the earlier structures are known
unfoldable pub Laid : (ℕ → ℕ) → ℕ → ℕ → List Part → Type 0
Laid sizes i size [] = Unit {0}
Laid sizes i size (p ∷ ps) = Lies sizes i size p.member ps × Laid sizes i size ps

-- ---- what a layout counts on

-- a declared member whose type was found: an atomic or one of the first i, with that type's size
pub record Resolved (sizes : ℕ → ℕ) (i : ℕ) (d : Decl) : Type 0 where
  pub size : d.size ≡ size_in sizes d.ty
  pub earlier : Earlier i d.ty
  pub align : 0 < d.align

-- each element is so
unfoldable pub Every : {A : Type 0} → (A → Type 0) → List A → Type 0
Every P [] = Unit {0}
Every P (x ∷ xs) = P x × Every P xs
