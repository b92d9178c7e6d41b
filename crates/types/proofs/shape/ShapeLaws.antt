-- Laws of tag shapes (document 01, "Tag shape"): the ways out of the tests, the product of the lengths one after the
-- other, and that a symbol type fits 16 bits.
use Rattle.std.specs.Prelude.{Option, Some, None}
use Prim.Native.Nat.{ℕ, ◌+◌, ◌-◌, ◌*◌, ◌/◌, ◌^◌, ◌≤◌, ◌<◌}
use native.Mathlib.Nat.{mul_assoc, le-mul_of_pos_right}
use native.Mathlib.Numerals.{add-one}
use native.Mathlib.Omega.{arith}
use mathlib.Core.Path.{◌≡◌, refl, sym, ap, ◌∙◌}
use mathlib.Core.Bool.{Bool, true, false, cond, not, ◌&&◌}
use mathlib.Core.List.{List, [], ◌∷◌}
use borrow.Author.Tests.{eqb-false, le-leb, lt-leb, leb-true, lt-ltb, le-ltb, ltb-true}
use borrow.Author.Tests.{not-true}
use lib.Dec.{eqb, leb, ltb, lit<}
use lib.ListN.{length, get_or, drop, drop_of_length-le}
use lib.Seq.{drop-cons}
use Rattle.std.specs.Int.{next_multiple_of}
use Rattle.std.specs.List.{list_all}
use Rattle.words.proofs.TestLaws.{and_left, and_right}
use Rattle.types.specs.atomics.Atomic.{code_of}
use Rattle.types.specs.inside.shape.Tags.{product_of}
use Rattle.types.specs.inside.tables.Lent.{TyFits}
use Rattle.types.specs.layout.Placing.{most_size, is_bool, align_up}
use Rattle.types.specs.refusals.Said.{Said, done, refused}
use Rattle.types.specs.shape.Tags.{most_lengths, none_zero, lengths_ok, product}
use Rattle.types.specs.shape.Tags.{three, within, bool_tag, bool_shape, plain_shape, shape_of, symbol_for, symbol_of}
use Rattle.types.specs.tables.Kept.{KeptTypes}
use Rattle.types.specs.tables.Lent.{type_at}
use Rattle.types.specs.tables.Limits.{most_types}
use Rattle.types.specs.tables.Sizes.{size_in, sizes_in}
use Rattle.types.specs.tables.There.{is_there}
use Rattle.types.specs.tables.TypeWord.{type_in, ids_in}
use Rattle.types.specs.declared.atomics.atomic.Atomic.{Atomic as Kind}
use Rattle.types.specs.declared.atomics.atomic.Atomic.TheVariants.{Bool as BOOL, SInt, Int, DInt, LInt, USInt}
use Rattle.types.specs.declared.atomics.atomic.Atomic.TheVariants.{UInt, UDInt, ULInt, Real, LReal, Byte, Word}
use Rattle.types.specs.declared.atomics.atomic.Atomic.TheVariants.{DWord, LWord}
use Rattle.types.specs.declared.shape.tags.Shape.{Shape}
use Rattle.types.specs.declared.tables.member.StructDef.{StructDef}
use Rattle.types.specs.declared.tables.member.Ty.{Ty}
use Rattle.types.specs.declared.tables.member.Ty.TheVariants.{Atomic, Struct}
use Rattle.types.proofs.tables.KeptLaws.{kept_ids}

-- ---- the types that are there

-- a structure with a number of 200 or above is not there
pub no_row : (types : List ℕ) {n : ℕ} → most_types ≤ n → false ≡ is_there types (Struct n)
no_row types {n} h = simp (le-ltb n most_types h)

-- a structure with a number below 200 is there just where the id in its row is not 0
pub row_used : (types : List ℕ) {n : ℕ} {d : StructDef} → n < most_types → d ≡ type_at types n
    → not (eqb d.id 0) ≡ is_there types (Struct n)
row_used types {n} h e = rw e (simp (lt-ltb n most_types h))

-- a type that is there is an atomic or a structure with a number below 200
pub there_fits : (types : List ℕ) (t : Ty) → is_there types t ≡ true → TyFits t
there_fits types (Atomic a) e = tt
there_fits types (Struct n) e = ltb-true n most_types (and_left (ltb n most_types) _ e)

-- ---- the lengths

-- BOOL has at most one length
pub most_bool : (t : Ty) → is_bool t ≡ true → 1 ≡ most_lengths t
unfolding most_lengths
most_bool t b = rw b

-- any type but BOOL has at most three lengths
pub most_other : (t : Ty) → is_bool t ≡ false → 3 ≡ most_lengths t
unfolding most_lengths
most_other t b = rw b

-- none is 0 just where the test holds of all
pub none_all : (s : List ℕ) → list_all (λ n. not (eqb n 0)) s ≡ none_zero s
unfolding none_zero
none_all [] = refl
none_all (n ∷ s) = ap (λ (b : Bool). not (eqb n 0) && b) (none_all s)

module _ (t : Ty) (s : List ℕ) where
  -- more lengths than the type may have are wrong
  pub too_many : most_lengths t < length s → false ≡ lengths_ok t s
  unfolding lengths_ok
  too_many h = simp (lt-leb (length s) (most_lengths t) h)

  -- lengths that are not too many for the type are right just where none is 0
  pub few : length s ≤ most_lengths t → none_zero s ≡ lengths_ok t s
  unfolding lengths_ok
  few h = simp (le-leb (length s) (most_lengths t) h)

  ok_few : lengths_ok t s ≡ true → length s ≤ most_lengths t
  unfolding lengths_ok
  ok_few e = leb-true (length s) (most_lengths t) (and_left _ (none_zero s) e)

  -- of right lengths none is 0
  pub ok_none : lengths_ok t s ≡ true → none_zero s ≡ true
  unfolding lengths_ok
  ok_none e = and_right (leb (length s) (most_lengths t)) (none_zero s) e

  -- a tag of BOOL counts as BOOL with a length just where it has one
  pub tag_bool : is_bool t ≡ true → ltb 0 (length s) ≡ bool_tag t s
  unfolding bool_tag
  tag_bool b = rw b

  -- a tag of any other type does not count as BOOL with a length
  pub tag_other : is_bool t ≡ false → false ≡ bool_tag t s
  unfolding bool_tag
  tag_other b = rw b

-- ---- products

-- where none is 0 the product is not
product_least : (s : List ℕ) → none_zero s ≡ true → 0 < product s
unfolding product none_zero
product_least [] e = omega arith
product_least (n ∷ s) e =
    let h : n ≡ 0 → ⊥ = eqb-false n 0 (not-true (eqb n 0) (and_left _ (none_zero s) e)) in
    let l = product_least s (and_right (not (eqb n 0)) (none_zero s) e) in
    let k = le-mul_of_pos_right n l in
    omega (arith, h)

-- the product of the lengths before the i-th, and of those from it on, is the product of all
pub record Multiplying (s : List ℕ) (n i : ℕ) : Type 0 where
  pub inside : i ≤ length s
  pub small : n ≤ 2 ^ 64 - 1
  pub none : none_zero (drop i s) ≡ true
  pub rest : product s ≡ n * product (drop i s)

-- before the first length the product is 1, and all lengths are left
pub mul_start : (s : List ℕ) → none_zero s ≡ true → Multiplying s 1 0
mul_start s e = record { inside = omega arith; small = omega arith; none = e; rest = omega arith }

module _ {s : List ℕ} {n i : ℕ} (w : Multiplying s n i) where
  module _ (l : i < length s) {x : ℕ} (e : x ≡ get_or s i 0) where
    next_none : none_zero (drop (i + 1) s) ≡ true
    unfolding none_zero
    next_none = and_right (not (eqb (get_or s i 0) 0)) _ (rw add-one (rw (drop-cons s i 0 l) at w.none))

    next_rest : product s ≡ n * x * product (drop (i + 1) s)
    unfolding product
    next_rest = w.rest ∙ rw (add-one, drop-cons s i 0 l, ← e) (sym (mul_assoc n x _))

    -- the next length is multiplied in where 64 bits hold the product
    pub mul_on : n * x < 2 ^ 64 → Multiplying s (n * x) (i + 1)
    mul_on f = record { inside = omega arith; small = omega arith; none = next_none; rest = next_rest }

    -- where 64 bits do not hold the product with the next length, they do not hold that of all
    pub mul_over : (n * x < 2 ^ 64 → ⊥) → None ≡ product_of s
    unfolding product_of
    mul_over f =
        let h : 2 ^ 64 ≤ n * x = omega arith in
        let k = le-mul_of_pos_right (n * x) (product_least (drop (i + 1) s) next_none) in
        simp (lt-leb (product s) (2 ^ 64 - 1) (omega (arith, next_rest)))

  -- where no length is left, the product is that of all
  pub mul_done : length s ≤ i → Some n ≡ product_of s
  unfolding product_of product
  mul_done l =
      let e : product s ≡ n = w.rest ∙ rw (drop_of_length-le s l) (omega arith) in
      rw e (simp (le-leb n (2 ^ 64 - 1) w.small))

-- ---- the shapes

module _ (sizes : ℕ → ℕ) (t : Ty) (lengths : List ℕ) (used n : ℕ) {size : ℕ} (e : size ≡ size_in sizes t) where
  -- elements of at most 2^26 bytes in all: the shape is given
  pub within_fits : size * n ≤ most_size
      → done (record { ty = t; lengths = lengths; used = used; elements = n; bytes = size * n })
      ≡ within sizes t lengths used n
  unfolding within
  within_fits f = rw (← e) (simp (le-leb (size * n) most_size f))

  -- elements of more than 2^26 bytes in all get refusal 24
  pub within_over : most_size < size * n → refused 24 0 ≡ within sizes t lengths used n
  unfolding within
  within_over f = rw (← e) (simp (lt-leb (size * n) most_size f))

-- the next multiple of 32 is the length rounded up
pub rounded : (n : ℕ) → next_multiple_of n 32 ≡ align_up n 32
unfolding align_up
rounded n = omega arith

module _ (sizes : ℕ → ℕ) (n : ℕ) {up : ℕ} (e : up ≡ align_up n 32) where
  -- a BOOL tag whose rounded length is above 2^32 - 1: refusal 24
  pub bool_over : 2 ^ 32 - 1 < up → refused 24 0 ≡ bool_shape sizes n
  unfolding bool_shape
  bool_over h = rw (← e) (simp (lt-leb up (2 ^ 32 - 1) h))

  -- a BOOL tag of a smaller rounded length has a DWORD for each 32, if they are at most 2^26 bytes
  pub bool_within : up ≤ 2 ^ 32 - 1 → within sizes (Atomic DWord) (three (up ∷ [])) 1 (up / 32) ≡ bool_shape sizes n
  unfolding bool_shape
  bool_within h = rw (← e) (simp (le-leb up (2 ^ 32 - 1) h))

-- a product that was found decides
over_go : (b : Bool) (n : ℕ) (s : Said Shape) → cond b (Some n) None ≡ None
    → refused 24 0 ≡ cond b s (refused 24 0)
over_go true n s q = cc
over_go false n s q = refl

is_go : (b : Bool) (n m : ℕ) (f : ℕ → Said Shape) → cond b (Some n) None ≡ Some m → f m ≡ cond b (f n) (refused 24 0)
is_go true n m f q =
    let z : m ≡ n = cc in
    ap f z
is_go false n m f q = cc

module _ (sizes : ℕ → ℕ) (t : Ty) (s : List ℕ) {p : Option ℕ} (e : p ≡ product_of s) where
  -- lengths whose product 64 bits do not hold: refusal 24
  pub plain_over : p ≡ None → refused 24 0 ≡ plain_shape sizes t s
  unfolding plain_shape product_of
  plain_over q = over_go (leb (product s) (2 ^ 64 - 1)) _ _ (sym e ∙ q)

  -- lengths whose product 64 bits hold give so many elements, if they are at most 2^26 bytes
  pub plain_is : {n : ℕ} → p ≡ Some n → within sizes t (three s) (length s) n ≡ plain_shape sizes t s
  unfolding plain_shape product_of
  plain_is {n} q =
      is_go (leb (product s) (2 ^ 64 - 1)) _ n (λ (x : ℕ). within sizes t (three s) (length s) x) (sym e ∙ q)

-- ---- the ways out

module _ (types : List ℕ) (t : Ty) (s : List ℕ) where
  -- the way out with 15: there is no such type
  pub not_there : is_there types t ≡ false → refused 15 0 ≡ shape_of types t s
  unfolding shape_of
  not_there a = rw a

  -- the way out with 23: the lengths are wrong
  pub lengths_wrong : is_there types t ≡ true → lengths_ok t s ≡ false → refused 23 0 ≡ shape_of types t s
  unfolding shape_of
  lengths_wrong a b = rw (a, b)

  -- the way of a BOOL with a right length: the shape of a BOOL tag
  pub bools : is_there types t ≡ true → lengths_ok t s ≡ true → bool_tag t s ≡ true
      → bool_shape (sizes_in types) (get_or s 0 0) ≡ shape_of types t s
  unfolding shape_of
  bools a b d = rw (a, b, d)

  -- the way of any other tag with right lengths: the shape of their product
  pub others : is_there types t ≡ true → lengths_ok t s ≡ true → bool_tag t s ≡ false
      → plain_shape (sizes_in types) t s ≡ shape_of types t s
  unfolding shape_of
  others a b d = rw (a, b, d)

-- ---- the symbol type

-- a code is below any type word of a structure
pub code_below : (a : Kind) → code_of a < 0x8000
unfolding code_of
code_below BOOL = lit< tt
code_below SInt = lit< tt
code_below Int = lit< tt
code_below DInt = lit< tt
code_below LInt = lit< tt
code_below USInt = lit< tt
code_below UInt = lit< tt
code_below UDInt = lit< tt
code_below ULInt = lit< tt
code_below Real = lit< tt
code_below LReal = lit< tt
code_below Byte = lit< tt
code_below Word = lit< tt
code_below DWord = lit< tt
code_below LWord = lit< tt

-- a type that is there has a type word below 0x9000
pub type_below : {types : List ℕ} → KeptTypes types → (t : Ty) → is_there types t ≡ true
    → type_in (ids_in types) t < 0x9000
type_below k (Atomic a) h = omega (arith, code_below a)
type_below {types} k (Struct n) h = omega (arith, kept_ids k.kept n (there_fits types (Struct n) h))

-- the ways out
module _ (types : List ℕ) (t : Ty) (used : ℕ) where
  -- no symbol type is given but 15: there is no such type
  pub symbol_absent : is_there types t ≡ false → refused 15 0 ≡ symbol_for types t used
  unfolding symbol_for
  symbol_absent a = rw a

  -- no symbol type is given but 23: there are more than three lengths
  pub symbol_many : is_there types t ≡ true → 3 < used → refused 23 0 ≡ symbol_for types t used
  unfolding symbol_for
  symbol_many a h = rw (a, lt-leb used 3 h)

  -- the symbol type is given of a type that is there, with at most three lengths
  pub symbol_is : is_there types t ≡ true → used ≤ 3 → done (symbol_of (ids_in types) t used) ≡ symbol_for types t used
  unfolding symbol_for
  symbol_is a h = rw (a, le-leb used 3 h)

-- ---- the shapes that are given

-- a shape that is given has a symbol type
record SymbolAsked (types : List ℕ) (r : Said Shape) : Type 0 where
  ask : (x : Shape) → r ≡ done x → (is_there types x.ty ≡ true) × (x.used ≤ 3)

module _ (types : List ℕ) where
  asked_refused : (number : ℕ) → SymbolAsked types (refused number 0)
  asked_refused number =
      record {
        ask = λ x e. absurd (let z : ⊥ = cc in z);
      }

  asked_if : (b : Bool) {p q : Said Shape} → (b ≡ true → SymbolAsked types p) → SymbolAsked types q
      → SymbolAsked types (cond b p q)
  asked_if true f g = f refl
  asked_if false f g = g

  asked_within : (sizes : ℕ → ℕ) (t : Ty) (lengths : List ℕ) (used n : ℕ) → is_there types t ≡ true → used ≤ 3
      → SymbolAsked types (within sizes t lengths used n)
  unfolding within
  asked_within sizes t lengths used n f h =
      asked_if (leb (size_in sizes t * n) most_size)
      (λ b.
      record {
        ask = λ x e.
            let s : record { ty = t; lengths = lengths; used = used; elements = n; bytes = size_in sizes t * n } ≡ x =
            cc in
            let p : t ≡ x.ty = ap (λ (y : Shape). y.ty) s in
            let q : used ≡ x.used = ap (λ (y : Shape). y.used) s in
            (rw p at f, omega arith);
      })
      (asked_refused 24)

  most_three : (t : Ty) → most_lengths t ≤ 3
  unfolding most_lengths
  most_three t = go (is_bool t)
    where
      go : (b : Bool) → cond b 1 3 ≤ 3
      go true = omega arith
      go false = omega arith

  asked_shape : (t : Ty) (s : List ℕ) → SymbolAsked types (shape_of types t s)
  unfolding shape_of bool_shape plain_shape
  asked_shape t s =
      asked_if (is_there types t)
      (λ a.
      asked_if (lengths_ok t s)
      (λ b.
      let few : length s ≤ 3 = omega (arith, ok_few t s b, most_three t) in
      asked_if (bool_tag t s)
      (λ d.
      asked_if (leb (align_up (get_or s 0 0) 32) (2 ^ 32 - 1))
      (λ h. asked_within (sizes_in types) (Atomic DWord) _ 1 _ refl (omega arith))
      (asked_refused 24))
      (asked_if (leb (product s) (2 ^ 64 - 1))
      (λ h. asked_within (sizes_in types) t _ (length s) _ a few)
      (asked_refused 24)))
      (asked_refused 23))
      (asked_refused 15)

  -- the symbol type of a shape as `tag_shape` gives it is never refused
  pub shape_symbol : (t : Ty) (s : List ℕ) (x : Shape) → shape_of types t s ≡ done x
      → symbol_for types x.ty x.used ≡ done (symbol_of (ids_in types) x.ty x.used)
  shape_symbol t s x e =
      let a = (asked_shape t s).ask x e in
      sym (symbol_is types x.ty x.used a.0 a.1)
