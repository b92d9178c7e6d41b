-- Laws of the atomic types: places and atomics name each other; the code's table is the definition's rows; a search
-- over the fifteen goes one after the other.
use Rattle.std.specs.Prelude.{Option, Some, None}
use Prim.Native.Nat.{ℕ, zero, suc, ◌+◌, ◌-◌, ◌≤◌, ◌<◌}
use native.Mathlib.Nat.{not-suc-le-zero, le_of_suc-le-suc}
use native.Mathlib.Numerals.{add-one}
use native.Mathlib.Omega.{arith}
use mathlib.Core.Path.{◌≡◌, refl, sym, ap, ◌∙◌}
use mathlib.Core.Bool.{Bool, true, false, cond}
use mathlib.Core.List.{List, [], ◌∷◌, map}
use lib.Arith.{lt_of_le-ne}
use lib.Dec.{lit<, lit≤, ltb}
use lib.ListN.{length, get_or, take, drop, length-append, get_or-eq_default, get_or-map}
use lib.Seq.{drop-cons, take-append_seam}
use Rattle.types.specs.atomics.Atomic.{atomics, atomic_at, code_of, num_of, name_of, row_of, first_of, atomic_named}
use Rattle.types.specs.atomics.Atomic.{code_at, code_named, first_code, said_by}
use Rattle.types.specs.book.Names.{same_name}
use Rattle.types.specs.inside.atomics.Atomic.{table_rows}
use Rattle.types.specs.refusals.Said.{done}
use Rattle.types.specs.declared.atomics.atomic.Atomic.{Atomic}
use Rattle.types.specs.declared.atomics.atomic.Atomic.TheVariants.{Bool as BOOL, SInt, Int, DInt, LInt, USInt}
use Rattle.types.specs.declared.atomics.atomic.Atomic.TheVariants.{UInt, UDInt, ULInt, Real, LReal, Byte, Word}
use Rattle.types.specs.declared.atomics.atomic.Atomic.TheVariants.{DWord, LWord}
use Rattle.types.specs.declared.atomics.atomic.AtomicRow.{AtomicRow}

-- the atomic at the place of an atomic is that atomic
pub at_num : (a : Atomic) → atomic_at (num_of a) ≡ a
unfolding atomic_at
at_num BOOL = refl
at_num SInt = refl
at_num Int = refl
at_num DInt = refl
at_num LInt = refl
at_num USInt = refl
at_num UInt = refl
at_num UDInt = refl
at_num ULInt = refl
at_num Real = refl
at_num LReal = refl
at_num Byte = refl
at_num Word = refl
at_num DWord = refl
at_num LWord = refl

-- every place past the last has BOOL
pub past_last : (i : ℕ) → 15 ≤ i → BOOL ≡ atomic_at i
unfolding atomic_at
past_last i h = sym (get_or-eq_default atomics BOOL h)

get_d_rows : (l : List Atomic) (i : ℕ) (d : AtomicRow) → i < length l
    → get_or (map row_of l) i d ≡ row_of (get_or l i BOOL)
get_d_rows [] i d h = absurd (not-suc-le-zero h)
get_d_rows (a ∷ l) zero d h = refl
get_d_rows (a ∷ l) (suc i) d h = get_d_rows l i d (le_of_suc-le-suc h)

-- a table that is the definition's rows has, at each place, that atomic's row
pub table_row : {t : List AtomicRow} (i : ℕ) (d : AtomicRow) → t ≡ table_rows atomics → i < 15
    → get_or t i d ≡ row_of (atomic_at i)
unfolding atomic_at table_rows
table_row {t} i d e h = rw (e, table_rows) (get_d_rows atomics i d h)

-- the name that stands in a row
pub row_name : (a : Atomic) {r : AtomicRow} → r ≡ row_of a → take r.2 r.3 ≡ name_of a
unfolding row_of
row_name a {r} e = rw e (take-append_seam (name_of a) _)

-- the length of a row's name is at most the bytes that the row has for it
pub row_long : (a : Atomic) {r : AtomicRow} → r ≡ row_of a → r.2 ≤ length r.3
unfolding row_of
row_long a {r} e = rw e (simp length-append (omega arith))

-- a name has at most five bytes
name_five : (a : Atomic) → length (name_of a) ≤ 5
unfolding name_of
name_five BOOL = lit≤ tt
name_five SInt = lit≤ tt
name_five Int = lit≤ tt
name_five DInt = lit≤ tt
name_five LInt = lit≤ tt
name_five USInt = lit≤ tt
name_five UInt = lit≤ tt
name_five UDInt = lit≤ tt
name_five ULInt = lit≤ tt
name_five Real = lit≤ tt
name_five LReal = lit≤ tt
name_five Byte = lit≤ tt
name_five Word = lit≤ tt
name_five DWord = lit≤ tt
name_five LWord = lit≤ tt

-- so has the name that stands in a row
pub row_five : (a : Atomic) {r : AtomicRow} → r ≡ row_of a → r.2 ≤ 5
unfolding row_of
row_five a {r} e = rw e (name_five a)

-- one atomic of those that are left in a search
module _ (p : Atomic → Bool) (i : ℕ) (l : i < 15) (b : Bool) (e : b ≡ p (atomic_at i)) where
  -- where the i-th passes the test, it is the first of those left that does
  pub first_hit : b ≡ true → Some (atomic_at i) ≡ first_of p (drop i atomics)
  unfolding first_of atomic_at
  first_hit q = rw (drop-cons atomics i BOOL l, ← e, q)

  -- where it fails the test, the search has the same answer over the atomics after it
  pub first_miss : b ≡ false → first_of p (drop i atomics) ≡ first_of p (drop (i + 1) atomics)
  unfolding first_of atomic_at
  first_miss q = rw (add-one, drop-cons atomics i BOOL l, ← e, q)

-- where none is left, no atomic is found
pub first_none : (p : Atomic → Bool) (i : ℕ) → 15 ≤ i → i ≤ 15 → None ≡ first_of p (drop i atomics)
unfolding first_of
first_none p i h k =
    let e : i ≡ 15 = omega arith in
    rw e

-- what the first atomic says is the first code
pub first_said : (p : Atomic → Bool) (l : List Atomic) → said_by (first_of p l) ≡ first_code p l
unfolding first_of first_code
first_said p [] = refl
first_said p (a ∷ l) = go (p a) (first_said p l)
  where
    go : (b : Bool) → said_by (first_of p l) ≡ first_code p l
        → said_by (cond b (Some a) (first_of p l)) ≡ cond b (done (code_of a)) (first_code p l)
    go true e = refl
    go false e = e

-- what the atomic of a name says is the code of that name
pub named_said : (s : List ℕ) → said_by (atomic_named s) ≡ code_named s
unfolding atomic_named code_named
named_said s = first_said (λ a. same_name (name_of a) s) atomics

-- the place of a code in the list
abbrev place_in_list : ℕ → ℕ
place_in_list c = cond (ltb c 0xD1) (c - 0xC1) (c - 0xC6)

code_back : (a : Atomic) → atomic_at (place_in_list (code_of a)) ≡ a
unfolding atomic_at code_of
code_back BOOL = refl
code_back SInt = refl
code_back Int = refl
code_back DInt = refl
code_back LInt = refl
code_back USInt = refl
code_back UInt = refl
code_back UDInt = refl
code_back ULInt = refl
code_back Real = refl
code_back LReal = refl
code_back Byte = refl
code_back Word = refl
code_back DWord = refl
code_back LWord = refl

-- no two atomics have the same code
pub code_same : (a b : Atomic) → code_of a ≡ code_of b → a ≡ b
code_same a b e = sym (code_back a) ∙ ap (λ (c : ℕ). atomic_at (place_in_list c)) e ∙ code_back b

-- the atomic at a place has the code at that place
pub at_said : (i : ℕ) → code_of (atomic_at i) ≡ code_at i
unfolding atomic_at code_at code_of
at_said i = sym (get_or-map code_of atomics i BOOL)

-- an atomic with the code at a place is the one at that place
pub at_is : {a : Atomic} (i : ℕ) → code_of a ≡ code_at i → a ≡ atomic_at i
at_is {a} i e = code_same a (atomic_at i) (e ∙ sym (at_said i))

-- answers that say the same are the same
pub found_same : (r s : Option Atomic) → said_by r ≡ said_by s → r ≡ s
found_same (Some a) (Some b) e =
    let c : code_of a ≡ code_of b = cc in
    ap Some (code_same a b c)
found_same (Some a) None e = cc
found_same None (Some b) e = cc
found_same None None e = refl

-- so an answer that says a name's code is the atomic of that name
pub named_is : {r : Option Atomic} (s : List ℕ) → said_by r ≡ code_named s → r ≡ atomic_named s
named_is {r} s e = found_same r (atomic_named s) (e ∙ sym (named_said s))

-- i is none of 1 to n, as the arms of a match leave it
abbrev pub NoneOf : ℕ → ℕ → Type 0
NoneOf i zero = Unit {0}
NoneOf i (suc n) = NoneOf i n × (i ≡ suc n → ⊥)

past : (i n : ℕ) → NoneOf i n → 0 < i → n < i
past i zero h l = l
past i (suc n) h l = lt_of_le-ne (past i n h.0 l) (λ e. h.1 (sym e))

-- any place but 1 to 14 has BOOL
pub at_other : (i : ℕ) → NoneOf i 14 → BOOL ≡ atomic_at i
at_other zero h = sym (at_num BOOL)
at_other (suc i) h = past_last (suc i) (past (suc i) 14 h (omega arith))

-- an atomic's place is below 15
pub num_below : (a : Atomic) → num_of a < 15
num_below BOOL = lit< tt
num_below SInt = lit< tt
num_below Int = lit< tt
num_below DInt = lit< tt
num_below LInt = lit< tt
num_below USInt = lit< tt
num_below UInt = lit< tt
num_below UDInt = lit< tt
num_below ULInt = lit< tt
num_below Real = lit< tt
num_below LReal = lit< tt
num_below Byte = lit< tt
num_below Word = lit< tt
num_below DWord = lit< tt
num_below LWord = lit< tt
