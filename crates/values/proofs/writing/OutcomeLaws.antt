-- Writing case by case (document 01, "Writing"): what each of its steps gives for the kind of the first entry that is
-- left.
use Prim.Native.Nat.{ℕ, zero, suc, ◌+◌}
use native.Mathlib.Omega.{arith}
use mathlib.Core.Path.{◌≡◌, refl}
use mathlib.Core.List.{List, [], ◌∷◌}
use borrow.Author.Tests.{eq-eqb, ne_eqb}
use lib.ListN.{length}
use Rattle.words.specs.Bits.{Bits}
use Rattle.values.specs.reading.Tree.{Tree, array, struct, Branches, span}
use Rattle.values.specs.stream.Stream.{Token, kind_of}
use Rattle.values.specs.writing.Effects.{Effect}
use Rattle.values.specs.writing.Writing.{Outcome, ok, bad, and_then, on_effect, write_one, opened, elements}
use Rattle.values.specs.writing.Writing.{members_in, write, write_branch}

-- some entries that begin with one of a kind, and some that do not
pub one_is : (takes : Token → Effect) (w p : ℕ) {us : List Token} (t : Token) (ts : List Token) (z : Bits)
    → us ≡ t ∷ ts → write_one takes w p us z ≡ on_effect (takes t) w p t ts z
unfolding write_one
one_is takes w p t ts z e = rw e refl

-- one entry, and none is left: 18
pub one_none : (takes : Token → Effect) (w p : ℕ) {us : List Token} (z : Bits)
    → us ≡ [] → write_one takes w p us z ≡ bad 18 []
unfolding write_one
one_none takes w p z e = rw e refl

-- ---- a null, or an opening

module _ (start : ℕ) (inner : List Token → Bits → Outcome) {us : List Token} where
  -- a null or an opening, and no entry is left: 18
  pub opened_none : (z : Bits) → us ≡ [] → opened start inner us z ≡ bad 18 []
  unfolding opened
  opened_none z e = rw e refl

  -- a null is taken, and the image stands
  pub opened_null : (t : Token) (ts : List Token) (z : Bits) → us ≡ t ∷ ts → kind_of t ≡ 0
      → opened start inner us z ≡ ok ts z
  unfolding opened
  opened_null t ts z e k = rw (e, eq-eqb (kind_of t) 0 k) refl

  -- after the opening comes what is inside
  pub opened_inner : (t : Token) (ts : List Token) (z : Bits) → us ≡ t ∷ ts → (kind_of t ≡ 0 → ⊥) → kind_of t ≡ start
      → opened start inner us z ≡ inner ts z
  unfolding opened
  opened_inner t ts z e n k = rw (e, ne_eqb (kind_of t) 0 n, eq-eqb (kind_of t) start k) refl

  -- an entry that is neither null nor the opening is refused with 18
  pub opened_other : (t : Token) (ts : List Token) (z : Bits) → us ≡ t ∷ ts → (kind_of t ≡ 0 → ⊥)
      → (kind_of t ≡ start → ⊥) → opened start inner us z ≡ bad 18 us
  unfolding opened
  opened_other t ts z e n k = rw (e, ne_eqb (kind_of t) 0 n, ne_eqb (kind_of t) start k) refl

-- ---- elements

module _ (one : ℕ → List Token → Bits → Outcome) (w : ℕ) {us : List Token} where
  -- elements, and no entry is left: 18
  pub elements_none : (n p : ℕ) (z : Bits) → us ≡ [] → elements n one w p us z ≡ bad 18 []
  unfolding elements
  elements_none zero p z e = rw e refl
  elements_none (suc n) p z e = rw e refl

  -- the array's close ends the elements, and the image stands
  pub elements_close : (n p : ℕ) (t : Token) (ts : List Token) (z : Bits) → us ≡ t ∷ ts → kind_of t ≡ 11
      → elements n one w p us z ≡ ok ts z
  unfolding elements
  elements_close zero p t ts z e k = rw (e, eq-eqb (kind_of t) 11 k) refl
  elements_close (suc n) p t ts z e k = rw (e, eq-eqb (kind_of t) 11 k) refl

  -- past the last place an entry that is no close: 20
  pub elements_full : (p : ℕ) (t : Token) (ts : List Token) (z : Bits) → us ≡ t ∷ ts → (kind_of t ≡ 11 → ⊥)
      → elements 0 one w p us z ≡ bad 20 us
  unfolding elements
  elements_full p t ts z e k = rw (e, ne_eqb (kind_of t) 11 k) refl

  -- where a place is left, an entry that is no close is an element's, and the others follow
  pub elements_next : (n p : ℕ) (t : Token) (ts : List Token) (z : Bits) → us ≡ t ∷ ts → (kind_of t ≡ 11 → ⊥)
      → elements (suc n) one w p us z ≡ and_then (one p us z) (elements n one w (p + w))
  unfolding elements
  elements_next n p t ts z e k = rw (e, ne_eqb (kind_of t) 11 k) refl

-- ---- members

module _ (one : Token → List Token → Bits → Outcome) {us : List Token} where
  -- members, and no entry is left: 18
  pub members_none : (most : ℕ) (z : Bits) → us ≡ [] → members_in most one us z ≡ bad 18 []
  unfolding members_in
  members_none zero z e = rw e refl
  members_none (suc most) z e = rw e refl

  -- the structure's close ends the members, and the image stands
  pub members_close : (most : ℕ) (t : Token) (ts : List Token) (z : Bits) → us ≡ t ∷ ts → kind_of t ≡ 9
      → members_in (suc most) one us z ≡ ok ts z
  unfolding members_in
  members_close most t ts z e k = rw (e, eq-eqb (kind_of t) 9 k) refl

  -- a member number: that member is written, and then the others
  pub members_next : (most : ℕ) (t : Token) (ts : List Token) (z : Bits) → us ≡ t ∷ ts → kind_of t ≡ 7
      → members_in (suc most) one us z ≡ and_then (one t ts z) (members_in most one)
  unfolding members_in
  members_next most t ts z e k =
      let n : kind_of t ≡ 9 → ⊥ = λ h. omega arith in
      rw (e, ne_eqb (kind_of t) 9 n, eq-eqb (kind_of t) 7 k) refl

  -- an entry that is neither the close nor a member number is refused with 18
  pub members_other : (most : ℕ) (t : Token) (ts : List Token) (z : Bits) → us ≡ t ∷ ts → (kind_of t ≡ 9 → ⊥)
      → (kind_of t ≡ 7 → ⊥) → members_in (suc most) one us z ≡ bad 18 us
  unfolding members_in
  members_other most t ts z e n k = rw (e, ne_eqb (kind_of t) 9 n, ne_eqb (kind_of t) 7 k) refl

-- ---- a structure and an array open

-- what is inside a structure, after its opening
abbrev pub in_struct : Branches → ℕ → List Token → Bits → Outcome
in_struct bs p ts z = members_in (suc (length ts)) (write_branch bs p) ts z

-- what is inside an array, after its opening
abbrev pub in_array : ℕ → Tree → ℕ → List Token → Bits → Outcome
in_array n tree p ts z = elements n (write tree) (span tree) p ts z

-- a structure is written as a null, or as an opening and the members inside
pub struct_opens : (size : ℕ) (bs : Branches) (p : ℕ) (ts : List Token) (z : Bits)
    → write (struct size bs) p ts z ≡ opened 8 (in_struct bs p) ts z
unfolding write
struct_opens size bs p ts z = refl

-- an array is written as a null, or as an opening and the elements inside
pub array_opens : (n : ℕ) (tree : Tree) (p : ℕ) (ts : List Token) (z : Bits)
    → write (array n tree) p ts z ≡ opened 10 (in_array n tree p) ts z
unfolding write
array_opens n tree p ts z = refl
