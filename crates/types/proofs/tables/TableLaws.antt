-- Laws of rows: what was stored in a row is read back, and the other rows stay as they were.
use Rattle.std.specs.Prelude.{Option, Some, None}
use Prim.Native.Nat.{ℕ, ◌+◌, ◌-◌, ◌*◌, ◌/◌, ◌%◌, ◌≤◌, ◌<◌}
use native.Mathlib.Nat.{add-zero}
use native.Mathlib.Omega.{arith}
use mathlib.Core.Path.{◌≡◌, refl}
use mathlib.Core.Bool.{Bool, true, false}
use mathlib.Core.List.{List, [], ◌∷◌}
use borrow.Author.Tests.{lt-ltb, le-ltb, ne_eqb}
use lib.Dec.{eqb}
use lib.ListN.{length, get_or}
use lib.Seq.{sets}
use Rattle.words.proofs.Lists.{get_d_sets}
use Rattle.types.specs.atomics.Atomic.{num_of}
use Rattle.types.specs.inside.tables.Lent.{TyFits}
use Rattle.types.specs.tables.Lent.{ty_word, ty_of_word, bit_word, bit_of_word, flags_of, kind_word, kind_of_word}
use Rattle.types.specs.tables.Lent.{member_row, member_at, name_at, type_row, type_at}
use Rattle.types.specs.declared.tables.member.Member.{Member}
use Rattle.types.specs.declared.tables.member.Span.{Span}
use Rattle.types.specs.declared.tables.member.StructDef.{StructDef}
use Rattle.types.specs.declared.tables.member.StructKind.{StructKind}
use Rattle.types.specs.declared.tables.member.StructKind.TheVariants.{Udt, Predefined, Str, Aoi}
use Rattle.types.specs.declared.tables.member.Ty.{Ty}
use Rattle.types.specs.declared.tables.member.Ty.TheVariants.{Atomic as atomic, Struct}
use Rattle.types.proofs.atomics.AtomicLaws.{at_num, num_below}

-- ---- words

-- a type is read back from its word
pub ty_back : (t : Ty) → ty_of_word (ty_word t) ≡ t
unfolding ty_of_word
ty_back (atomic a) = simp (lt-ltb (num_of a) 0x8000 (omega (arith, num_below a)), at_num a)
ty_back (Struct n) =
    let e : 0x8000 + n - 0x8000 ≡ n = omega arith in
    simp (le-ltb (0x8000 + n) 0x8000 (omega arith), e)

-- the word of an atomic, or of a structure below 200, has 16 bits
pub word_below : (t : Ty) → TyFits t → ty_word t < 65536
word_below (atomic a) f = omega (arith, num_below a)
word_below (Struct n) f = omega arith

-- a bit is one of eight
abbrev pub BitFits : Option ℕ → Type 0
BitFits None = Unit {0}
BitFits (Some k) = k < 8

pub bit_back : (b : Option ℕ) → BitFits b → bit_of_word (bit_word b) ≡ b
unfolding bit_of_word
bit_back None h = refl
bit_back (Some k) h =
    let e : (k + 1 - 1) % 8 ≡ k = omega arith in
    simp (ne_eqb (k + 1) 0 (λ q. omega arith), e)

-- whether a member is hidden is read back from its flags
pub hidden_back : (h l : Bool) → eqb (flags_of h l % 2) 1 ≡ h
hidden_back true true = refl
hidden_back true false = refl
hidden_back false true = refl
hidden_back false false = refl

-- whether a member is local is read back from its flags
pub local_back : (h l : Bool) → eqb (flags_of h l / 2 % 2) 1 ≡ l
local_back true true = refl
local_back true false = refl
local_back false true = refl
local_back false false = refl

-- a structure's kind is read back from its word
pub kind_back : (k : StructKind) → kind_of_word (kind_word k) ≡ k
unfolding kind_of_word
kind_back Udt = refl
kind_back Predefined = refl
kind_back Str = refl
kind_back Aoi = refl

-- ---- rows of eight words

-- row i of a table has these eight words
pub record Eight (t : List ℕ) (i : ℕ) (a b c d e f g h : ℕ) : Type 0 where
  pub w0 : get_or t (8 * i) 0 ≡ a
  pub w1 : get_or t (8 * i + 1) 0 ≡ b
  pub w2 : get_or t (8 * i + 2) 0 ≡ c
  pub w3 : get_or t (8 * i + 3) 0 ≡ d
  pub w4 : get_or t (8 * i + 4) 0 ≡ e
  pub w5 : get_or t (8 * i + 5) 0 ≡ f
  pub w6 : get_or t (8 * i + 6) 0 ≡ g
  pub w7 : get_or t (8 * i + 7) 0 ≡ h

-- a stored row has the words that were stored
stored : (t : List ℕ) (i : ℕ) {a b c d e f g h : ℕ} → 8 * i + 8 ≤ length t
    → Eight (sets t (8 * i) (a ∷ b ∷ c ∷ d ∷ e ∷ f ∷ g ∷ h ∷ [])) i a b c d e f g h
stored t i {a} {b} {c} {d} {e} {f} {g} {h} l =
    let row = a ∷ b ∷ c ∷ d ∷ e ∷ f ∷ g ∷ h ∷ [] in
    let at : (k : ℕ) → k < 8 → get_or (sets t (8 * i) row) (8 * i + k) 0 ≡ get_or row k 0 =
    λ k m. get_d_sets t (8 * i) row k 0 (omega arith) (omega arith) in
    record {
      w0 = rw add-zero at (at 0 (omega arith));
      w1 = at 1 (omega arith);
      w2 = at 2 (omega arith);
      w3 = at 3 (omega arith);
      w4 = at 4 (omega arith);
      w5 = at 5 (omega arith);
      w6 = at 6 (omega arith);
      w7 = at 7 (omega arith);
    }

-- ---- members

-- what a member's row can hold
pub record RowStorable (m : Member) : Type 0 where
  pub bit : BitFits m.bit
  pub access : m.access < 256

member_words : (t : List ℕ) (i : ℕ) (n : Span) (m : Member) → 8 * i + 8 ≤ length t
    → Eight (sets t (8 * i) (member_row n m)) i n.at n.long (ty_word m.ty) m.count m.offset
    (bit_word m.bit)
    (flags_of m.hidden m.local) m.access
unfolding member_row
member_words t i n m h = stored t i h

-- a stored member is read back
pub member_back : (t : List ℕ) (i : ℕ) (n : Span) (m : Member) → 8 * i + 8 ≤ length t → RowStorable m
    → member_at (sets t (8 * i) (member_row n m)) i ≡ m
unfolding member_at
member_back t i n m h s =
    let w = member_words t i n m h in
    let a : m.access % 256 ≡ m.access = omega (arith, s.access) in
    simp (
      w.w0,
      w.w1,
      w.w2,
      w.w3,
      w.w4,
      w.w5,
      w.w6,
      w.w7,
      ty_back,
      bit_back m.bit s.bit,
      hidden_back,
      local_back,
      a,
    )

-- the place and the length of a stored member's name are read back
pub name_back : (t : List ℕ) (i : ℕ) {n : Span} (m : Member) → 8 * i + 8 ≤ length t
    → name_at (sets t (8 * i) (member_row n m)) i ≡ n
unfolding name_at
name_back t i {n} m h =
    let w = member_words t i n m h in
    simp (w.w0, w.w1)

-- ---- structures

-- what a structure's row can hold
pub record TypeStorable (d : StructDef) : Type 0 where
  pub id : d.id < 65536
  pub handle : d.handle < 65536

type_words : (t : List ℕ) (i : ℕ) (d : StructDef) → 8 * i + 8 ≤ length t
    → Eight (sets t (8 * i) (type_row d)) i d.name.at d.name.long d.id d.handle d.size
    (kind_word d.kind) d.first d.count
unfolding type_row
type_words t i d h = stored t i h

-- a stored structure is read back
pub type_back : (t : List ℕ) (i : ℕ) {d : StructDef} → 8 * i + 8 ≤ length t → TypeStorable d
    → type_at (sets t (8 * i) (type_row d)) i ≡ d
unfolding type_at
type_back t i {d} h s =
    let w = type_words t i d h in
    let a : d.id % 65536 ≡ d.id = omega (arith, s.id) in
    let b : d.handle % 65536 ≡ d.handle = omega (arith, s.handle) in
    simp (w.w0, w.w1, w.w2, w.w3, w.w4, w.w5, w.w6, w.w7, kind_back, a, b)
