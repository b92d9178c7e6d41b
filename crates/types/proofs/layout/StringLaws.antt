-- A type of kind Str is a string (document 01, "Layout", String): its parts are LEN and DATA, and its size is 4 plus
-- its capacity rounded up to 4. It is said of a type that was added, and of a row of the tables.
use Prim.Native.Nat.{ℕ, ◌+◌, ◌*◌, ◌/◌}
use native.Mathlib.Omega.{arith}
use mathlib.Core.Path.{◌≡◌, refl, sym, ap, ◌∙◌}
use mathlib.Core.Bool.{Bool, true, false, true≢false}
use mathlib.Core.List.{List}
use lib.Dec.{eqb}
use Rattle.types.specs.layout.Placing.{align_up}
use Rattle.types.specs.layout.Structs.{laid_kind, dint_at, data_of, string_parts, string_size}
use Rattle.types.specs.tables.Defs.{Part}
use Rattle.types.specs.tables.Lent.{kind_word, member_at}
use Rattle.types.specs.declared.tables.member.StructDef.{StructDef}
use Rattle.types.specs.declared.tables.member.StructKind.{StructKind}
use Rattle.types.specs.declared.tables.member.StructKind.TheVariants.{Str}

-- a size and parts that are those of a string
pub record StringParts (size : ℕ) (parts : List Part) : Type 0 where
  pub capacity : ℕ
  pub rows : parts ≡ string_parts capacity
  pub bytes : size ≡ string_size capacity

-- a row whose type is a string: two members, LEN and DATA
pub record StringRow (members : List ℕ) (d : StructDef) : Type 0 where
  pub capacity : ℕ
  pub count : d.count ≡ 2
  pub len : member_at members d.first ≡ dint_at 0
  pub chars : member_at members (d.first + 1) ≡ data_of capacity
  pub size : d.size ≡ 4 + 4 * ((capacity + 3) / 4)

-- what is laid out as a string is one
pub string_is : (c : ℕ) → StringParts (string_size c) (string_parts c)
string_is c = record { capacity = c; rows = refl; bytes = refl }

-- nothing is asked of another kind
pub other_kind : {size : ℕ} {parts : List Part} (k : StructKind) → eqb (kind_word k) 2 ≡ false → k ≡ Str
    → StringParts size parts
other_kind k n e = absurd (true≢false (sym (ap (λ (x : StructKind). eqb (kind_word x) 2) e) ∙ n))

-- the kind of a UDT or an AOI is not Str
pub no_string : (aoi : Bool) → eqb (kind_word (laid_kind aoi)) 2 ≡ false
no_string true = refl
no_string false = refl

-- a string's size is 4 plus its capacity rounded up to 4
pub string_bytes : (c : ℕ) → string_size c ≡ 4 + 4 * ((c + 3) / 4)
unfolding string_size align_up
string_bytes c = omega arith
