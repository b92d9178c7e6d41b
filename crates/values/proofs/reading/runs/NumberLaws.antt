-- Laws of numbers (document 01, "Reading"): a number as the code widens it is what its leaf gives, by one law over the
-- width for signed numbers and one for the others; that each atomic but BOOL is an instance of it.
use Prim.Native.Nat.{ℕ, ◌+◌, ◌-◌, ◌*◌, ◌^◌, ◌≤◌, ◌<◌}
use native.Mathlib.Nat.{add-zero}
use native.Mathlib.Omega.{arith}
use mathlib.Core.Path.{◌≡◌, refl, sym, ap, ◌∙◌}
use mathlib.Core.List.{List}
use lib.Dec.{ltb}
use lib.ListN.{get_or}
use Rattle.words.specs.Bits.{flat}
use Rattle.words.specs.Words.{part, word_at, Bytes}
use Rattle.words.proofs.BitLaws.{part_val}
use Rattle.words.proofs.WordLaws.{word_below, word_one}
use Rattle.words.proofs.TestLaws.{cond_same}
use Rattle.types.specs.atomics.Atomic.{size_of}
use Rattle.types.specs.declared.atomics.atomic.Atomic.{Atomic}
use Rattle.types.specs.declared.atomics.atomic.Atomic.TheVariants as atomic
use Rattle.values.specs.inside.reading.Numbers.{extended, form_of, plain_form, signed_form}
use Rattle.values.specs.reading.Leaf.{int, word, byte, emit, is_true, leaf_of, signed}
use Rattle.values.specs.stream.Stream.{bool, number}
use Rattle.values.specs.declared.reading.numbers.Form.{Form}

-- ---- the bits of a part

-- ---- one number

-- nothing is put above it
no_fill : (f : Form) (x : ℕ) → f.fill ≡ 0 → extended f x ≡ x
unfolding extended
no_fill f x h = rw (h, add-zero x) (cond_same (ltb x f.half) x)

-- THE LAW over the width: a signed number of n bytes
pub int_form : (n : ℕ) (s : List ℕ) (at : ℕ) → Bytes s
    → emit (int (8 * n)) (flat (part s at n))
    ≡ number 2 (extended (signed_form (2 ^ (8 * n - 1)) (2 ^ 64 - 2 ^ (8 * n))) (word_at n s at))
unfolding signed extended
int_form n s at b = rw (part_val n s at b)

-- and any other
pub word_form : (kind n : ℕ) (s : List ℕ) (at : ℕ) → Bytes s
    → emit (word kind (8 * n)) (flat (part s at n)) ≡ number kind (extended (plain_form kind) (word_at n s at))
word_form kind n s at b = rw (no_fill (plain_form kind) (word_at n s at) refl, part_val n s at b)

-- nothing stands above a signed number of eight bytes
long_form : (s : List ℕ) (at : ℕ) → Bytes s
    → emit (int 64) (flat (part s at 8)) ≡ number 2 (extended (plain_form 2) (word_at 8 s at))
long_form s at b =
    int_form 8 s at b
    ∙ ap (number 2) (no_fill (signed_form (2 ^ 63) 0) (word_at 8 s at) refl
    ∙ sym (no_fill (plain_form 2) (word_at 8 s at) refl))

-- the entry of any atomic but BOOL is its word, extended by its form
pub number_form : (a : Atomic) (s : List ℕ) (at : ℕ) → Bytes s → (a ≡ atomic.Bool → ⊥)
    → emit (leaf_of a) (flat (part s at (size_of a)))
    ≡ number (form_of a).kind (extended (form_of a) (word_at (size_of a) s at))
unfolding size_of
number_form atomic.Bool s at b h = absurd (h refl)
number_form atomic.SInt s at b h = int_form 1 s at b
number_form atomic.Int s at b h = int_form 2 s at b
number_form atomic.DInt s at b h = int_form 4 s at b
number_form atomic.LInt s at b h = long_form s at b
number_form atomic.USInt s at b h = word_form 3 1 s at b
number_form atomic.UInt s at b h = word_form 3 2 s at b
number_form atomic.UDInt s at b h = word_form 3 4 s at b
number_form atomic.ULInt s at b h = word_form 3 8 s at b
number_form atomic.Real s at b h = word_form 4 4 s at b
number_form atomic.LReal s at b h = word_form 5 8 s at b
number_form atomic.Byte s at b h = word_form 3 1 s at b
number_form atomic.Word s at b h = word_form 3 2 s at b
number_form atomic.DWord s at b h = word_form 3 4 s at b
number_form atomic.LWord s at b h = word_form 3 8 s at b

-- the entry of a BOOL's byte says whether the byte is above 0
pub truth_form : (s : List ℕ) (at : ℕ) → Bytes s → emit byte (flat (part s at 1)) ≡ bool (is_true (get_or s at 0))
truth_form s at b = rw (← part_val 1 s at b, word_one)

-- ---- what stands above a number fits beside it

fill_room : (a : Atomic) → 256 ^ size_of a + (form_of a).fill ≤ 2 ^ 64
unfolding size_of
fill_room atomic.Bool = omega arith
fill_room atomic.SInt = omega arith
fill_room atomic.Int = omega arith
fill_room atomic.DInt = omega arith
fill_room atomic.LInt = omega arith
fill_room atomic.USInt = omega arith
fill_room atomic.UInt = omega arith
fill_room atomic.UDInt = omega arith
fill_room atomic.ULInt = omega arith
fill_room atomic.Real = omega arith
fill_room atomic.LReal = omega arith
fill_room atomic.Byte = omega arith
fill_room atomic.Word = omega arith
fill_room atomic.DWord = omega arith
fill_room atomic.LWord = omega arith

-- a number, and what its form puts above it, fit into 64 bits
pub fill_fits : (a : Atomic) (s : List ℕ) (at : ℕ) → Bytes s → word_at (size_of a) s at + (form_of a).fill < 2 ^ 64
fill_fits a s at b = omega (arith, fill_room a, word_below (size_of a) s at b)
