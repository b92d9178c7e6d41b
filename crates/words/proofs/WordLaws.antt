-- Laws of little-endian words, over the width: a word is its two halves, in a list and as bytes; what was stored is
-- loaded; what was loaded can be stored again.
use Prim.Native.Nat.{ℕ, zero, suc, ◌+◌, ◌*◌, ◌/◌, ◌%◌, ◌^◌, ◌≤◌, ◌<◌}
use native.Mathlib.Nat.{add-zero, zero-add, suc-add, pow-suc, pow-succ', mul_assoc, div-div-eq-div-mul}
use native.Mathlib.Nat.{one-le-pow, mod-one, div-one}
use native.Mathlib.Omega.{arith}
use mathlib.Core.Path.{◌≡◌, refl, sym, ap, ◌∙◌}
use mathlib.Core.List.{List, [], ◌∷◌, ◌++◌}
use lib.Arith.{mod-mul}
use lib.ListN.{length, get_or, take, drop, replicate}
use lib.Seq.{sets, drop-cons, get_or-drop}
use Rattle.words.specs.Words.{word_at, bytes_of, part, Bytes}
use Rattle.words.proofs.Lists.{sets_append, get_d_sets, part_cons}

power_pos : (n : ℕ) → 0 < 256 ^ n
power_pos n = one-le-pow n 256 (omega arith)

-- the one law of the loads: a word of m + n bytes is its m low bytes and 256 ^ m times its n high ones
pub word_split : (m n : ℕ) (s : List ℕ) (at : ℕ)
    → word_at (m + n) s at ≡ word_at m s at + 256 ^ m * word_at n s (at + m)
unfolding word_at
word_split zero n s at = simp (zero-add, add-zero) (omega arith)
word_split (suc m) n s at =
    let e : at + 1 + m ≡ at + suc m = omega arith in
    let f : 256 ^ suc m * word_at n s (at + suc m) ≡ 256 * (256 ^ m * word_at n s (at + suc m)) =
    rw pow-succ' (mul_assoc 256 (256 ^ m) (word_at n s (at + suc m))) in
    rw suc-add (omega (arith, rw e at (word_split m n s (at + 1)), f))

-- the n lowest bytes of a number are n
pub length_bytes : (n x : ℕ) → length (bytes_of n x) ≡ n
unfolding bytes_of
length_bytes zero x = refl
length_bytes (suc n) x = ap suc (length_bytes n (x / 256))

-- a byte is its own lowest byte
pub byte_of : (x : ℕ) → x < 256 → x % 256 ≡ x
byte_of x h = omega arith

-- the remainder by a word's range, one byte after the other
mod_step : (n x : ℕ) → x % 256 ^ suc n ≡ x % 256 + 256 * (x / 256 % 256 ^ n)
mod_step n x = rw pow-suc (omega (arith, mod-mul x {m = 256 ^ n} {c = 256} (power_pos n) (omega arith)))

-- the bytes of a number are those of its low end
pub bytes_low : (n x : ℕ) → bytes_of n (x % 256 ^ n) ≡ bytes_of n x
unfolding bytes_of
bytes_low zero x = refl
bytes_low (suc n) x =
    let e : x % 256 ^ suc n % 256 ≡ x % 256 = omega (arith, mod_step n x) in
    let f : x % 256 ^ suc n / 256 ≡ x / 256 % 256 ^ n = omega (arith, mod_step n x) in
    rw (e, f, bytes_low n (x / 256))

bytes_split : (m n x : ℕ) → bytes_of (m + n) x ≡ bytes_of m x ++ bytes_of n (x / 256 ^ m)
unfolding bytes_of
bytes_split zero n x = rw (zero-add, div-one)
bytes_split (suc m) n x =
    let e : x / 256 ^ suc m ≡ x / 256 / 256 ^ m = rw pow-succ' (sym (div-div-eq-div-mul x 256 (256 ^ m))) in
    rw (suc-add, e, bytes_split m n (x / 256))

-- the one law of the stores: the low m bytes, and the n bytes above them
pub store_split : (m n : ℕ) (s : List ℕ) (at x : ℕ)
    → sets (sets s at (bytes_of m (x % 256 ^ m))) (at + m) (bytes_of n (x / 256 ^ m)) ≡ sets s at (bytes_of (m + n) x)
store_split m n s at x =
    rw (bytes_low m x, bytes_split m n x, sets_append s at (bytes_of m x) (bytes_of n (x / 256 ^ m)), length_bytes m x)

-- a word is below its range
pub word_below : (n : ℕ) (s : List ℕ) (at : ℕ) → Bytes s → word_at n s at < 256 ^ n
unfolding word_at
word_below zero s at b = omega arith
word_below (suc n) s at b = rw pow-suc (omega (arith, word_below n s (at + 1) b, b at))

-- words are equal where their bytes are
pub word_ext : (n : ℕ) (s t : List ℕ) (at to : ℕ) → ((k : ℕ) → k < n → get_or s (at + k) 0 ≡ get_or t (to + k) 0)
    → word_at n s at ≡ word_at n t to
unfolding word_at
word_ext zero s t at to h = refl
word_ext (suc n) s t at to h =
    let e : get_or s at 0 ≡ get_or t to 0 = simp add-zero at (h 0 (omega arith)) in
    let f : word_at n s (at + 1) ≡ word_at n t (to + 1) =
    word_ext n s t (at + 1) (to + 1)
    (λ k l.
    let a : at + 1 + k ≡ at + suc k = omega arith in
    let b : to + 1 + k ≡ to + suc k = omega arith in
    rw (a, b) (h (suc k) (omega arith))) in
    rw (e, f)

bytes_word : (n x : ℕ) → word_at n (bytes_of n x) 0 ≡ x % 256 ^ n
unfolding word_at bytes_of
bytes_word zero x = sym (mod-one x)
bytes_word (suc n) x =
    let e : word_at n (x % 256 ∷ bytes_of n (x / 256)) 1 ≡ x / 256 % 256 ^ n =
    word_ext n (x % 256 ∷ bytes_of n (x / 256)) (bytes_of n (x / 256)) 1 0
    (λ k l.
    let a : 1 + k ≡ suc k = omega arith in
    rw (a, zero-add))
    ∙ bytes_word n (x / 256) in
    omega (arith, e, mod_step n x)

-- what was stored is loaded
pub word_back : (n : ℕ) (s : List ℕ) (at x : ℕ) → at + n ≤ length s
    → word_at n (sets s at (bytes_of n x)) at ≡ x % 256 ^ n
word_back n s at x h =
    word_ext n (sets s at (bytes_of n x)) (bytes_of n x) at 0
    (λ k l. rw zero-add (get_d_sets s at (bytes_of n x) k 0 (omega (arith, length_bytes n x))
    (omega (arith, length_bytes n x))))
    ∙ bytes_word n x

-- what was loaded is those bytes
pub bytes_back : (n : ℕ) (s : List ℕ) (at : ℕ) → Bytes s → at + n ≤ length s → bytes_of n (word_at n s at) ≡ part s at n
unfolding word_at bytes_of part
bytes_back zero s at b h = refl
bytes_back (suc n) s at b h =
    let w : ℕ = word_at n s (at + 1) in
    let e : (get_or s at 0 + 256 * w) % 256 ≡ get_or s at 0 = omega (arith, b at) in
    let f : (get_or s at 0 + 256 * w) / 256 ≡ w = omega (arith, b at) in
    let g : at + 1 ≡ suc at = omega arith in
    rw (e, f, drop-cons s at 0 (omega arith), ← g)
    (ap (λ (l : List ℕ). get_or s at 0 ∷ l) (bytes_back n s (at + 1) b (omega arith)))

-- the low and the high byte of a word of 16 bits are its two bytes
pub two_bytes : {x : ℕ} → x < 65536 → x % 256 ∷ x / 256 ∷ [] ≡ bytes_of 2 x
unfolding bytes_of
two_bytes {x} h =
    let e : x / 256 % 256 ≡ x / 256 = omega arith in
    rw e

-- the low two bytes of a number, stored over two zeros, are its two bytes
pub two_stored : (x : ℕ) → sets (replicate 2 0) 0 (bytes_of 2 (x % 65536)) ≡ bytes_of 2 x
two_stored x = whole (x % 65536) ∙ bytes_low 2 x
  where
    whole : (a : ℕ) → sets (replicate 2 0) 0 (bytes_of 2 a) ≡ bytes_of 2 a
    whole a = unfold bytes_of in refl

-- a number cut to w bytes is stored in w bytes as the number itself
pub low_stored : (image : List ℕ) (at size x w : ℕ) {y : ℕ} {new : List ℕ} → size ≡ w → y ≡ x % 256 ^ w
    → new ≡ sets image at (bytes_of w y) → new ≡ sets image at (bytes_of size x)
low_stored image at size x w e d b = b ∙ rw (d, bytes_low w x, e) refl

-- a number stored in w bytes is stored in its size, where that is w
pub all_stored : (image : List ℕ) (at size x w : ℕ) {new : List ℕ} → size ≡ w
    → new ≡ sets image at (bytes_of w x) → new ≡ sets image at (bytes_of size x)
all_stored image at size x w e b = b ∙ rw e refl

-- a word of one byte is that byte
pub word_one : (s : List ℕ) (at : ℕ) → word_at 1 s at ≡ get_or s at 0
unfolding word_at
word_one s at = add-zero (get_or s at 0)

-- a word of four bytes is the sum of its bytes, each counted 256 times as much as the one before
pub word_four : (s : List ℕ) (at : ℕ) → word_at 4 s at
    ≡ get_or s at 0 + 256 * get_or s (at + 1) 0 + 65536 * get_or s (at + 2) 0 + 16777216 * get_or s (at + 3) 0
unfolding word_at
word_four s at =
    let two : at + 1 + 1 ≡ at + 2 = omega arith in
    let three : at + 2 + 1 ≡ at + 3 = omega arith in
    rw (two, three) (omega arith)

-- the low byte of a word that is 0 or 1 is the word
pub low_byte : (n : ℕ) (s : List ℕ) (at : ℕ) → word_at (suc n) s at < 2 → get_or s at 0 ≡ word_at (suc n) s at
unfolding word_at
low_byte n s at h = omega arith

-- twelve bytes are four, one after the other, and a word of eight
pub twelve : (s : List ℕ) (at : ℕ) → Bytes s → at + 12 ≤ length s
    → part s at 12
    ≡ get_or s at 0 ∷ get_or s (at + 1) 0 ∷ get_or s (at + 2) 0 ∷ get_or s (at + 3) 0 ∷ bytes_of 8
    (word_at 8 s (at + 4))
twelve s at b h =
    let a : at + 0 ≡ at = add-zero at in
    let p : part s at 12 ≡ get_or s at 0 ∷ part s (at + 1) 11 = rw a at (part_cons s at 12 0 0 (omega arith) h) in
    p
    ∙ rw (
      part_cons s at 12 1 0 (omega arith) h,
      part_cons s at 12 2 0 (omega arith) h,
      part_cons s at 12 3 0 (omega arith) h,
      bytes_back 8 s (at + 4) b (omega arith),
    )

take_bytes : (n : ℕ) (s : List ℕ) → Bytes s → Bytes (take n s)
take_bytes zero s b k = omega arith
take_bytes (suc n) [] b k = omega arith
take_bytes (suc n) (x ∷ s) b zero = b 0
take_bytes (suc n) (x ∷ s) b (suc k) = take_bytes n s (λ j. b (suc j)) k

-- a part of a list of bytes is one
pub part_bytes : (s : List ℕ) (a n : ℕ) → Bytes s → Bytes (part s a n)
unfolding part
part_bytes s a n b = take_bytes n (drop a s) (λ k. rw get_or-drop (b (a + k)))
