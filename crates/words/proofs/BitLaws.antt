-- Laws of bits: of a number, of a list of bytes, of bits put over others; one bit set or cleared; a word as the
-- number of its bits.
use Prim.Native.Nat.{ℕ, zero, suc, ◌+◌, ◌-◌, ◌*◌, ◌/◌, ◌%◌, ◌^◌, ◌≤◌, ◌<◌, min, max}
use native.Mathlib.Nat.{add_assoc, zero-add, suc-add, pow-suc, pow-succ', mul_assoc, div-div-eq-div-mul, div-one}
use native.Mathlib.Nat.{one-mul, mod-eq_of_lt}
use native.Mathlib.Decide.{ℕ_discrete}
use native.Mathlib.Omega.{arith}
use mathlib.Core.Path.{◌≡◌, refl, sym, ap, ◌∙◌, fun_ext}
use mathlib.Core.Bool.{Bool, true, false, cond, not, ◌&&◌, ◌||◌, or-true, or-false, and-true, and-false}
use mathlib.Core.List.{List, [], ◌∷◌, ◌++◌}
use mathlib.Core.Logic.{◌≢◌}
use borrow.Author.Tests.{lt-ltb, le-ltb, eq-eqb, ne_eqb}
use native.Mathlib.Decide.{dec_lt}
use lib.Bits.{bit_or, bit_and, or_step, and_step}
use lib.Dec.{eqb, eqb-suc-zero, eqb-zero-suc, eqb-suc-suc}
use lib.ListN.{length, get_or, set, replicate, get_or-append}
use lib.Pow.{pow-lt}
use lib.Seq.{get_or-append-add, get_or-drop, get_or-set_same, get_or-set_other, get_or-take}
use Rattle.words.specs.Bits.{Bits, from, bit_of, flat, digit, val, inside, stamp, with_bit}
use Rattle.words.specs.Words.{part, word_at, Bytes}
use Rattle.words.proofs.Lists.{get_d_zeros}

-- ---- bits of a number

-- the first bit of a number says whether it is odd
pub bit_first : (x : ℕ) → bit_of x 0 ≡ eqb (x % 2) 1
unfolding bit_of
bit_first x = rw div-one

bit_next : (x k : ℕ) → bit_of x (suc k) ≡ bit_of (x / 2) k
unfolding bit_of
bit_next x k = rw (pow-succ' 2 k, ← div-div-eq-div-mul x 2 (2 ^ k))

-- no bit of 0 is set
pub bit_none : (k : ℕ) → bit_of 0 k ≡ false
bit_none zero = bit_first 0
bit_none (suc k) = bit_next 0 k ∙ bit_none k

-- ---- the number of some bits

-- a digit is 0 or 1
pub digit_lt : (b : Bool) → digit b < 2
digit_lt true = omega arith
digit_lt false = omega arith

-- the number of n bits is below 2^n
pub val_below : (n : ℕ) (b : Bits) → val n b < 2 ^ n
unfolding val
val_below zero b = omega arith
val_below (suc n) b = rw pow-suc (omega (arith, val_below n (λ k. b (suc k)), digit_lt (b 0)))

-- n bits that are the same make the same number
pub val_ext : (n : ℕ) (b c : Bits) → ((k : ℕ) → k < n → b k ≡ c k) → val n b ≡ val n c
unfolding val
val_ext zero b c h = refl
val_ext (suc n) b c h =
    let e : val n (λ k. b (suc k)) ≡ val n (λ k. c (suc k)) =
    val_ext n (λ k. b (suc k)) (λ k. c (suc k)) (λ k l. h (suc k) (omega arith)) in
    rw (e, h 0 (omega arith))

odd_digit : (b : Bool) (v : ℕ) → eqb ((digit b + 2 * v) % 2) 1 ≡ b
odd_digit true v = let e : (1 + 2 * v) % 2 ≡ 1 = omega arith in rw e
odd_digit false v = let e : (0 + 2 * v) % 2 ≡ 0 = omega arith in rw e

-- the bits of the number of some bits are those bits
pub bit_val : (n : ℕ) (b : Bits) (k : ℕ) → k < n → bit_of (val n b) k ≡ b k
unfolding val
bit_val zero b k h = absurd (omega arith)
bit_val (suc n) b zero h = bit_first _ ∙ odd_digit (b 0) (val n (λ j. b (suc j)))
bit_val (suc n) b (suc k) h =
    let e : (digit (b 0) + 2 * val n (λ j. b (suc j))) / 2 ≡ val n (λ j. b (suc j)) = omega (arith, digit_lt (b 0)) in
    bit_next _ k ∙ rw e (bit_val n (λ j. b (suc j)) k (omega arith))

-- a number that is 0 or 1 is a digit
pub digit_is : (x : ℕ) → x < 2 → digit (eqb x 1) ≡ x
digit_is zero h = refl
digit_is (suc zero) h = refl
digit_is (suc (suc x)) h = absurd (omega arith)

digit_odd : (v : ℕ) → digit (eqb (v % 2) 1) ≡ v % 2
digit_odd v = digit_is (v % 2) (omega arith)

-- a number divided by 2^k, modulo 2, is the digit of its bit k
pub bit_digit : (x k : ℕ) → x / 2 ^ k % 2 ≡ digit (bit_of x k)
unfolding bit_of
bit_digit x k = sym (digit_odd (x / 2 ^ k))

-- the lowest bit of a digit is the test that it stands for
pub digit_bit : (t : Bool) → bit_of (digit t) 0 ≡ t
unfolding bit_of
digit_bit true = refl
digit_bit false = refl

-- the only bit of a number that is 0 or 1
pub truth_bit : (x j : ℕ) → x < 2 → j < 1 → eqb x 1 ≡ bit_of x j
truth_bit x j l m =
    let e : 0 ≡ j = omega arith in
    let f : x ≡ x % 2 = omega arith in
    ap (λ (v : ℕ). eqb v 1) f ∙ sym (bit_first x) ∙ ap (bit_of x) e

-- n bits that make the same number are the same
pub val_tells : (n : ℕ) (b c : Bits) → val n b ≡ val n c → (k : ℕ) → k < n → b k ≡ c k
val_tells n b c e k l = sym (bit_val n b k l) ∙ ap (λ (x : ℕ). bit_of x k) e ∙ bit_val n c k l

-- the number of a number's bits is that number
pub val_bit : (n v : ℕ) → v < 2 ^ n → val n (bit_of v) ≡ v
unfolding val
val_bit zero v h = omega arith
val_bit (suc n) v h =
    let p : v < 2 ^ n * 2 = rw pow-suc at h in
    let e : val n (λ k. bit_of v (suc k)) ≡ v / 2 =
    val_ext n (λ k. bit_of v (suc k)) (bit_of (v / 2)) (λ k l. bit_next v k) ∙ val_bit n (v / 2) (omega arith) in
    rw (e, bit_first v, digit_odd) (omega arith)

-- m bits, and n bits after them
pub val_split : (m n : ℕ) (b : Bits) → val (m + n) b ≡ val m b + 2 ^ m * val n (from m b)
unfolding val
val_split zero n b =
    let e : val (0 + n) b ≡ val n (from 0 b) =
    ap (λ (j : ℕ). val j b) (zero-add n) ∙ val_ext n b (from 0 b) (λ k l. ap b (omega arith)) in
    omega arith
val_split (suc m) n b =
    let c : Bits = λ k. b (suc k) in
    let e : val n (from m c) ≡ val n (from (suc m) b) =
    val_ext n (from m c) (from (suc m) b) (λ k l. ap b (omega arith)) in
    let f : 2 ^ suc m * val n (from (suc m) b) ≡ 2 * (2 ^ m * val n (from (suc m) b)) =
    rw pow-succ' (mul_assoc 2 (2 ^ m) (val n (from (suc m) b))) in
    let g : val (m + n) c ≡ val m c + 2 ^ m * val n (from (suc m) b) =
    val_split m n c ∙ ap (λ (v : ℕ). val m c + 2 ^ m * v) e in
    ap (λ (j : ℕ). val j b) (suc-add m n) ∙ omega arith

-- ---- a list of bytes as bits

-- bit 8 at + k of some bytes is bit k of the byte at that place
pub flat_at : (s : List ℕ) (at k : ℕ) → k < 8 → flat s (8 * at + k) ≡ bit_of (get_or s at 0) k
unfolding flat
flat_at s at k h =
    let e : (8 * at + k) / 8 ≡ at = omega arith in
    let f : (8 * at + k) % 8 ≡ k = omega arith in
    rw (e, f)

-- a byte is the number of its eight bits
pub byte_val : (s : List ℕ) (at : ℕ) → get_or s at 0 < 256 → val 8 (from (8 * at) (flat s)) ≡ get_or s at 0
byte_val s at h =
    val_ext 8 (from (8 * at) (flat s)) (bit_of (get_or s at 0)) (λ k l. flat_at s at k l) ∙ val_bit 8 (get_or s at 0) h

-- a word of n bytes is the number of its 8 * n bits
pub word_val : (n : ℕ) (s : List ℕ) (at : ℕ) → Bytes s → word_at n s at ≡ val (8 * n) (from (8 * at) (flat s))
unfolding word_at
word_val zero s at b = unfold val in refl
word_val (suc n) s at b =
    let e : 8 * suc n ≡ 8 + 8 * n = omega arith in
    let f : val (8 * n) (from 8 (from (8 * at) (flat s))) ≡ val (8 * n) (from (8 * (at + 1)) (flat s)) =
    val_ext (8 * n) (from 8 (from (8 * at) (flat s))) (from (8 * (at + 1)) (flat s))
    (λ k l. ap (flat s) (omega arith)) in
    rw e (omega (arith, val_split 8 (8 * n) (from (8 * at) (flat s)), byte_val s at (b at), f, word_val n s (at + 1) b))

-- a word that a list begins with is the number of the list's first bits
pub first_word : (s : List ℕ) → Bytes s → {n : ℕ} → n ≡ word_at 4 s 0 → n ≡ val 32 (flat s)
first_word s b e = e ∙ word_val 4 s 0 b ∙ ap (val 32) (fun_ext (λ k. ap (flat s) (zero-add k)))

-- bit k of a part is that bit of the whole
pub flat_part : (s : List ℕ) (at n k : ℕ) → k < 8 * n → flat (part s at n) k ≡ flat s (8 * at + k)
unfolding flat part
flat_part s at n k h =
    let e : (8 * at + k) / 8 ≡ at + k / 8 = omega arith in
    let f : (8 * at + k) % 8 ≡ k % 8 = omega arith in
    let l : k / 8 < n = omega arith in
    rw (e, f, get_or-take, get_or-drop)

-- a word is the number of the bits of its part
pub part_val : (n : ℕ) (s : List ℕ) (at : ℕ) → Bytes s → word_at n s at ≡ val (8 * n) (flat (part s at n))
part_val n s at b =
    word_val n s at b
    ∙ val_ext (8 * n) (from (8 * at) (flat s)) (flat (part s at n)) (λ k l. sym (flat_part s at n k l))

-- bit k of a list of one byte is bit k of that byte
pub one_byte : (x k : ℕ) → k < 8 → flat (x ∷ []) k ≡ bit_of x k
one_byte x k h = ap (flat (x ∷ [])) (sym (zero-add k)) ∙ flat_at (x ∷ []) 0 k h

-- of two lists, one after the other, the first bits are those of the first list
pub append_first : (a b : List ℕ) (k : ℕ) → k < 8 * length a → flat (a ++ b) k ≡ flat a k
unfolding flat
append_first a b k l = ap (λ (x : ℕ). bit_of x (k % 8)) (get_or-append a b 0 (k / 8) (omega arith))

-- and the bits after them are those of the second
pub append_second : (a b : List ℕ) (k : ℕ) → flat (a ++ b) (8 * length a + k) ≡ flat b k
unfolding flat
append_second a b k =
    let e : (8 * length a + k) / 8 ≡ length a + k / 8 = omega arith in
    let f : (8 * length a + k) % 8 ≡ k % 8 = omega arith in
    rw (e, f) (ap (λ (x : ℕ). bit_of x (k % 8)) (get_or-append-add a b (k / 8) 0))

-- zeros put after a list change none of its bits
pub flat_zeros : (bs : List ℕ) (n : ℕ) → flat (bs ++ replicate n 0) ≡ flat bs
unfolding flat
flat_zeros bs n = fun_ext (λ k. ap (λ (x : ℕ). bit_of x (k % 8)) (get_d_zeros bs n (k / 8)))

-- from p on and then from q on is from p + q on
pub from_from : (p q : ℕ) (x : Bits) → from (p + q) x ≡ from q (from p x)
from_from p q x = fun_ext (λ k. ap x (add_assoc p q k))

-- ---- bits of an or, an and, a complement, a power of two

or_digit : (r t : ℕ) → r < 2 → t < 2 → eqb (max r t) 1 ≡ (eqb r 1 || eqb t 1)
or_digit zero zero h k = refl
or_digit zero (suc zero) h k = refl
or_digit (suc zero) zero h k = refl
or_digit (suc zero) (suc zero) h k = refl
or_digit zero (suc (suc t)) h k = absurd (omega arith)
or_digit (suc zero) (suc (suc t)) h k = absurd (omega arith)
or_digit (suc (suc r)) t h k = absurd (omega arith)

pub bit_or_lem : (a b k : ℕ) → bit_of (bit_or a b) k ≡ (bit_of a k || bit_of b k)
bit_or_lem a b zero =
    let e : bit_or a b % 2 ≡ max (a % 2) (b % 2) = omega (arith, or_step a b) in
    rw (bit_first (bit_or a b), bit_first a, bit_first b, e) (or_digit (a % 2) (b % 2) (omega arith) (omega arith))
bit_or_lem a b (suc k) =
    let e : bit_or a b / 2 ≡ bit_or (a / 2) (b / 2) = omega (arith, or_step a b) in
    rw (bit_next (bit_or a b) k, bit_next a k, bit_next b k, e) (bit_or_lem (a / 2) (b / 2) k)

and_digit : (r t : ℕ) → r < 2 → t < 2 → eqb (min r t) 1 ≡ (eqb r 1 && eqb t 1)
and_digit zero zero h k = refl
and_digit zero (suc zero) h k = refl
and_digit (suc zero) zero h k = refl
and_digit (suc zero) (suc zero) h k = refl
and_digit zero (suc (suc t)) h k = absurd (omega arith)
and_digit (suc zero) (suc (suc t)) h k = absurd (omega arith)
and_digit (suc (suc r)) t h k = absurd (omega arith)

pub bit_and_lem : (a b k : ℕ) → bit_of (bit_and a b) k ≡ (bit_of a k && bit_of b k)
bit_and_lem a b zero =
    let e : bit_and a b % 2 ≡ min (a % 2) (b % 2) = omega (arith, and_step a b) in
    rw (bit_first (bit_and a b), bit_first a, bit_first b, e) (and_digit (a % 2) (b % 2) (omega arith) (omega arith))
bit_and_lem a b (suc k) =
    let e : bit_and a b / 2 ≡ bit_and (a / 2) (b / 2) = omega (arith, and_step a b) in
    rw (bit_next (bit_and a b) k, bit_next a k, bit_next b k, e) (bit_and_lem (a / 2) (b / 2) k)

not_digit : (r t : ℕ) → r < 2 → t ≡ 1 - r → eqb t 1 ≡ not (eqb r 1)
not_digit zero t h e = rw e
not_digit (suc zero) t h e = rw e
not_digit (suc (suc r)) t h e = absurd (omega arith)

pub bit_not : (k n v : ℕ) → v < 2 ^ n → k < n → bit_of (2 ^ n - 1 - v) k ≡ not (bit_of v k)
bit_not k zero v h l = absurd (omega arith)
bit_not zero (suc n) v h l =
    let p : 2 ^ suc n ≡ 2 ^ n * 2 = pow-suc 2 n in
    rw (bit_first (2 ^ suc n - 1 - v), bit_first v)
    (not_digit (v % 2) ((2 ^ suc n - 1 - v) % 2) (omega arith) (omega arith))
bit_not (suc k) (suc n) v h l =
    let p : 2 ^ suc n ≡ 2 ^ n * 2 = pow-suc 2 n in
    let e : (2 ^ suc n - 1 - v) / 2 ≡ 2 ^ n - 1 - v / 2 = omega arith in
    rw (bit_next (2 ^ suc n - 1 - v) k, bit_next v k, e) (bit_not k n (v / 2) (omega arith) (omega arith))

pub bit_power : (b k : ℕ) → bit_of (2 ^ b) k ≡ eqb k b
bit_power zero zero = bit_first 1
bit_power zero (suc k) = bit_next 1 k ∙ bit_none k ∙ sym (eqb-suc-zero k)
bit_power (suc b) zero =
    let e : 2 ^ suc b % 2 ≡ 0 = omega (arith, pow-suc 2 b) in
    bit_first (2 ^ suc b) ∙ rw e (sym (eqb-zero-suc b))
bit_power (suc b) (suc k) =
    let e : 2 ^ suc b / 2 ≡ 2 ^ b = omega (arith, pow-suc 2 b) in
    bit_next (2 ^ suc b) k ∙ rw (e, eqb-suc-suc k b) (bit_power b k)

-- ---- one bit of a byte

-- the bits of a byte with one bit set or cleared
pub bit_with : (x b k : ℕ) (v : Bool) → b < 8 → k < 8 → bit_of (with_bit x b v) k ≡ cond (eqb k b) v (bit_of x k)
unfolding with_bit
bit_with x b k true h l = bit_or_lem x (2 ^ b) k ∙ rw (bit_power b k) (go (eqb k b) (bit_of x k))
  where
    go : (e t : Bool) → (t || e) ≡ cond e true t
    go true t = or-true t
    go false t = or-false t
bit_with x b k false h l =
    bit_and_lem x (255 - 2 ^ b) k ∙ rw (bit_not k 8 (2 ^ b) (pow-lt h) l, bit_power b k) (go (eqb k b) (bit_of x k))
  where
    go : (e t : Bool) → (t && not e) ≡ cond e false t
    go true t = and-false t
    go false t = and-true t

-- the mask that code makes by a shift is the bit's power
mask : (k : ℕ) → k < 8 → 1 * 2 ^ k % 256 ≡ 2 ^ k
mask k h = ap (◌% 256) (one-mul (2 ^ k)) ∙ mod-eq_of_lt (pow-lt h)

-- an or with the shifted mask sets the bit
pub mask_set : (x k : ℕ) (v : Bool) → k < 8 → v ≡ true → bit_or x (1 * 2 ^ k % 256) ≡ with_bit x k v
unfolding with_bit
mask_set x k v h e = rw (e, mask k h)

-- an and with all but the shifted mask clears the bit
pub mask_clear : (x k : ℕ) (v : Bool) → k < 8 → v ≡ false → bit_and x (255 - 1 * 2 ^ k % 256) ≡ with_bit x k v
unfolding with_bit
mask_clear x k v h e = rw (e, mask k h)

-- ---- bits put over others

-- where bit k lies: among the n bits from p on, or beside them
pub data BitLies (p n k : ℕ) : Type 0 where
  among : p ≤ k → k < p + n → inside p n k ≡ true → BitLies p n k
  beside : (p ≤ k → k < p + n → ⊥) → inside p n k ≡ false → BitLies p n k

-- every bit lies among the n bits from p on, or beside them
pub lies : (p n k : ℕ) → BitLies p n k
unfolding inside
lies p n k = go (dec_lt k p) (dec_lt k (p + n))
  where
    go : Dec (k < p) → Dec (k < p + n) → BitLies p n k
    go (yes l) d = beside (λ a b. omega arith) (simp (lt-ltb k p l))
    go (no l) (yes m) =
        let o : p ≤ k = omega (arith, l) in
        among o m (simp (le-ltb k p o, lt-ltb k (p + n) m))
    go (no l) (no m) =
        let o : p ≤ k = omega (arith, l) in
        let q : p + n ≤ k = omega (arith, m) in
        beside (λ a b. omega arith) (simp (le-ltb k p o, le-ltb k (p + n) q))

-- a byte stored is its eight bits put over the others
pub flat_set : (s : List ℕ) (at x : ℕ) → at < length s → flat (set s at x) ≡ stamp (8 * at) 8 (bit_of x) (flat s)
unfolding flat stamp
flat_set s at x h = fun_ext (λ k. go k (lies (8 * at) 8 k))
  where
    go : (k : ℕ) → BitLies (8 * at) 8 k
        → bit_of (get_or (set s at x) (k / 8) 0) (k % 8)
        ≡ cond (inside (8 * at) 8 k) (bit_of x (k - 8 * at)) (bit_of (get_or s (k / 8) 0) (k % 8))
    go k (among a b e) =
        let c : k / 8 ≡ at = omega arith in
        let d : k % 8 ≡ k - 8 * at = omega arith in
        rw (e, c, d, get_or-set_same s at x 0 h)
    go k (beside f e) = rw (e, get_or-set_other s at (k / 8) x 0 (λ c. f (omega arith) (omega arith)))

-- one bit stored changes that bit alone
pub flat_with : (s : List ℕ) (at b : ℕ) (v : Bool) → at < length s → b < 8
    → flat (set s at (with_bit (get_or s at 0) b v)) ≡ stamp (8 * at + b) 1 (λ k. v) (flat s)
unfolding flat stamp
flat_with s at b v h l = fun_ext (λ k. go k (ℕ_discrete (k / 8) at) (lies (8 * at + b) 1 k))
  where
    go : (k : ℕ) → Dec (k / 8 ≡ at) → BitLies (8 * at + b) 1 k
        → bit_of (get_or (set s at (with_bit (get_or s at 0) b v)) (k / 8) 0) (k % 8)
        ≡ cond (inside (8 * at + b) 1 k) v (bit_of (get_or s (k / 8) 0) (k % 8))
    go k (yes c) (among p q e) =
        let d : k % 8 ≡ b = omega arith in
        rw (e, c, get_or-set_same s at (with_bit (get_or s at 0) b v) 0 h, d)
        (bit_with (get_or s at 0) b b v l l ∙ rw (eq-eqb b b refl))
    go k (yes c) (beside f e) =
        let d : k % 8 ≢ b = λ t. f (omega arith) (omega arith) in
        rw (e, c, get_or-set_same s at (with_bit (get_or s at 0) b v) 0 h)
        (bit_with (get_or s at 0) b (k % 8) v l (omega arith) ∙ rw (ne_eqb (k % 8) b d))
    go k (no c) (among p q e) = absurd (c (omega arith))
    go k (no c) (beside f e) = rw (e, get_or-set_other s at (k / 8) (with_bit (get_or s at 0) b v) 0 c)
