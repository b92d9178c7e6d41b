-- Atomics as trees say them and as the passes go over them (document 01, "Writing"): one is one entry, or for a bit
-- string an array of bools; many are a run after an opening.
use Prim.Native.Nat.{ℕ, zero, suc, ◌*◌, ◌<◌}
use native.Mathlib.Nat.{mul_assoc}
use native.Mathlib.Omega.{arith}
use mathlib.Core.Path.{◌≡◌, refl, ap, ◌∙◌, fun_ext}
use mathlib.Core.Bool.{Bool, true, false, cond}
use mathlib.Core.List.{List, [], ◌∷◌}
use borrow.Author.Tests.{eq-eqb, ne_eqb}
use Rattle.words.specs.Bits.{Bits, stamp}
use Rattle.types.specs.atomics.Atomic.{bit_string, size_of}
use Rattle.types.specs.declared.atomics.atomic.Atomic.{Atomic}
use Rattle.types.specs.declared.atomics.atomic.Atomic.TheVariants as atomic
use Rattle.values.specs.inside.writing.Effects.{atomic_takes}
use Rattle.values.specs.inside.writing.Passes.{first_kind}
use Rattle.values.specs.inside.writing.Rows.{run_in}
use Rattle.values.specs.reading.Leaf.{leaf_of, width}
use Rattle.values.specs.reading.Tree.{Tree, leaf, bits, array, span}
use Rattle.values.specs.reading.Trees.{atomics_tree}
use Rattle.values.specs.stream.Stream.{Token, kind_of}
use Rattle.values.specs.writing.Effects.{Effect, bits_whole, or_null, taken}
use Rattle.values.specs.writing.Writing.{bools_in, elements, first_is, no_bits, opened, rest, wholes_in, write}
use Rattle.values.specs.writing.Writing.{write_bits, write_one}
use Rattle.values.proofs.reading.SpanLaws.{leaf_room}

-- ---- what an atomic takes, and its tree

leaf_width : (a : Atomic) → width (leaf_of a) ≡ 8 * size_of a
unfolding size_of
leaf_width atomic.Bool = refl
leaf_width atomic.SInt = refl
leaf_width atomic.Int = refl
leaf_width atomic.DInt = refl
leaf_width atomic.LInt = refl
leaf_width atomic.USInt = refl
leaf_width atomic.UInt = refl
leaf_width atomic.UDInt = refl
leaf_width atomic.ULInt = refl
leaf_width atomic.Real = refl
leaf_width atomic.LReal = refl
leaf_width atomic.Byte = refl
leaf_width atomic.Word = refl
leaf_width atomic.DWord = refl
leaf_width atomic.LWord = refl

bits_takes : (a : Atomic) → bit_string a ≡ true → bits_whole (8 * size_of a) ≡ atomic_takes a
bits_takes a e = fun_ext (λ t. unfold atomic_takes in rw e refl)

leaf_takes : (a : Atomic) → bit_string a ≡ false → taken (leaf_of a) ≡ atomic_takes a
leaf_takes a e = fun_ext (λ t. unfold atomic_takes in rw e refl)

bits_tree : (a : Atomic) (n : ℕ) → bit_string a ≡ true → atomics_tree a n ≡ bits (8 * size_of a) n
unfolding atomics_tree
bits_tree a n e = rw e refl

one_tree : (a : Atomic) → bit_string a ≡ false → atomics_tree a 0 ≡ leaf (leaf_of a)
unfolding atomics_tree
one_tree a e = rw e refl

array_tree : (a : Atomic) (n : ℕ) → bit_string a ≡ false → 0 < n → atomics_tree a n ≡ array n (leaf (leaf_of a))
unfolding atomics_tree
array_tree a n e l = rw (e, ne_eqb n 0 (λ h. let z : ⊥ = omega arith in z)) refl

-- ---- the first entry

-- the first entry is of a kind, or is not
first_row_is : (kind : ℕ) (ts : List Token) → kind < 12 → first_kind ts ≡ kind → first_is kind ts ≡ true
first_row_is kind [] l e = absurd (let z : ⊥ = omega arith in z)
first_row_is kind (t ∷ ts) l e = eq-eqb (kind_of t) kind e

first_not : (kind : ℕ) (ts : List Token) → (first_kind ts ≡ kind → ⊥) → first_is kind ts ≡ false
first_not kind [] e = refl
first_not kind (t ∷ ts) e = ne_eqb (kind_of t) kind e

-- ---- what each of a run does

-- a leaf's entry
leaf_one : (a : Atomic) (p : ℕ) (ts : List Token) (z : Bits) → bit_string a ≡ false
    → write (leaf (leaf_of a)) p ts z ≡ write_one (or_null (atomic_takes a)) (8 * size_of a) p ts z
unfolding write
leaf_one a p ts z e =
    ap (λ (takes : Token → Effect). write_one (or_null takes) (width (leaf_of a)) p ts z) (leaf_takes a e)
    ∙ ap (λ (w : ℕ). write_one (or_null (atomic_takes a)) w p ts z) (leaf_width a)

-- the two runs
leaf_run : (a : Atomic) (n p : ℕ) (us : List Token) (y : Bits) → bit_string a ≡ false
    → elements n (λ q vs x. write (leaf (leaf_of a)) q vs x) (span (leaf (leaf_of a))) p us y ≡ run_in a n p us y
unfolding run_in span
leaf_run a n p us y e =
    let same : (λ (q : ℕ) (vs : List Token) (x : Bits). write (leaf (leaf_of a)) q vs x)
    ≡ write_one (or_null (atomic_takes a)) (8 * size_of a) =
    fun_ext (λ q. fun_ext (λ vs. fun_ext (λ x. leaf_one a q vs x e))) in
    rw e
    (ap (λ one. elements n one (span (leaf (leaf_of a))) p us y) same
    ∙ ap (λ (w : ℕ). elements n (write_one (or_null (atomic_takes a)) (8 * size_of a)) w p us y) (leaf_room a))

bits_run : (a : Atomic) (n p : ℕ) (us : List Token) (y : Bits) → bit_string a ≡ true
    → cond (first_is 1 us) (bools_in (8 * size_of a * n) p us y) (wholes_in (8 * size_of a) n p us y)
    ≡ run_in a n p us y
unfolding run_in
bits_run a n p us y e = rw (e, mul_assoc 8 (size_of a) n, bits_takes a e) refl

-- a run is bools where the first entry is one, and the atomic a bit string; else numbers
pub run_bools : (a : Atomic) (n p : ℕ) (ts : List Token) (z : Bits) → bit_string a ≡ true → first_kind ts ≡ 1
    → run_in a n p ts z ≡ bools_in (8 * (size_of a * n)) p ts z
unfolding run_in
run_bools a n p ts z e h = rw (e, first_row_is 1 ts (omega arith) h) refl

-- a run of bit strings whose first entry is no bool is a whole number or null for each
pub run_wholes : (a : Atomic) (n p : ℕ) (ts : List Token) (z : Bits) → bit_string a ≡ true → (first_kind ts ≡ 1 → ⊥)
    → run_in a n p ts z ≡ elements n (write_one (or_null (atomic_takes a)) (8 * size_of a)) (8 * size_of a) p ts z
unfolding run_in
run_wholes a n p ts z e h = rw (e, first_not 1 ts h) refl

-- a run of atomics that are no bit strings is one entry or null for each
pub run_numbers : (a : Atomic) (n p : ℕ) (ts : List Token) (z : Bits) → bit_string a ≡ false
    → run_in a n p ts z ≡ elements n (write_one (or_null (atomic_takes a)) (8 * size_of a)) (8 * size_of a) p ts z
unfolding run_in
run_numbers a n p ts z e = rw e refl

-- ---- many

-- an array of atomics is written as a null, or as an opening and the run inside
pub array_is : (a : Atomic) (n p : ℕ) (ts : List Token) (z : Bits) → 0 < n
    → write (atomics_tree a n) p ts z ≡ opened 10 (run_in a n p) ts z
array_is a zero p ts z l = absurd (let z : ⊥ = omega arith in z)
array_is a (suc n) p ts z l = go (bit_string a) refl
  where
    go : (b : Bool) → bit_string a ≡ b → write (atomics_tree a (suc n)) p ts z ≡ opened 10 (run_in a (suc n) p) ts z
    go true e =
        ap (λ (t : Tree). write t p ts z) (bits_tree a (suc n) e)
        ∙ (unfold write write_bits in
        ap (λ inner. opened 10 inner ts z) (fun_ext (λ us. fun_ext (λ y. bits_run a (suc n) p us y e))))
    go false e =
        ap (λ (t : Tree). write t p ts z) (array_tree a (suc n) e l)
        ∙ (unfold write in
        ap (λ inner. opened 10 inner ts z) (fun_ext (λ us. fun_ext (λ y. leaf_run a (suc n) p us y e))))

-- ---- one

-- one atomic that is no bit string is written by one entry or null
pub one_is_leaf : (a : Atomic) (p : ℕ) (ts : List Token) (z : Bits) → bit_string a ≡ false
    → write (atomics_tree a 0) p ts z ≡ write_one (or_null (atomic_takes a)) (8 * size_of a) p ts z
one_is_leaf a p ts z e = ap (λ (t : Tree). write t p ts z) (one_tree a e) ∙ leaf_one a p ts z e

-- a bit string whose first entry opens no array is written by one number or null
pub bits_number : (a : Atomic) (p : ℕ) (ts : List Token) (z : Bits) → bit_string a ≡ true
    → (first_kind ts ≡ 10 → ⊥)
    → write (atomics_tree a 0) p ts z ≡ write_one (or_null (atomic_takes a)) (8 * size_of a) p ts z
bits_number a p ts z e h =
    ap (λ (t : Tree). write t p ts z) (bits_tree a 0 e)
    ∙ (unfold write write_bits in rw (first_not 10 ts h, bits_takes a e) refl)

-- a bit string whose first entry opens an array is written by its bools, the missing ones zero
pub bits_bools : (a : Atomic) (p : ℕ) (ts : List Token) (z : Bits) → bit_string a ≡ true → first_kind ts ≡ 10
    → write (atomics_tree a 0) p ts z ≡ bools_in (8 * size_of a) p (rest ts) (stamp p (8 * size_of a) no_bits z)
bits_bools a p ts z e h =
    ap (λ (t : Tree). write t p ts z) (bits_tree a 0 e)
    ∙ (unfold write write_bits in rw (first_row_is 10 ts (omega arith) h) refl)
