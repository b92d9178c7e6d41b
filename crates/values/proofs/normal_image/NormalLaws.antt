-- Laws of the normal image (document 01, "Normal image"), leaf by leaf and over items that share no bit: a reading sees
-- nothing but the normal bits, and two readings are the same exactly when the normal bits are.
use Prim.Native.Nat.{ℕ, suc, ◌+◌, ◌-◌, ◌*◌, ◌^◌, ◌<◌, ◌≤◌}
use native.Mathlib.Nat.{pow-suc}
use native.Mathlib.Omega.{arith}
use mathlib.Core.Path.{◌≡◌, refl, sym, ap, ◌∙◌}
use mathlib.Core.Bool.{Bool, true, false, cond, ◌&&◌}
use mathlib.Core.List.{List}
use lib.Dec.{ltb}
use lib.ListN.{length}
use lib.Pow.{pow_mono}
use borrow.Author.Tests.{lt-ltb, le-ltb, ltb-true, ltb-false}
use Rattle.words.specs.Bits.{Bits, from, bit_of, digit, val}
use Rattle.words.proofs.BitLaws.{val_below, val_bit, val_ext, val_tells, digit_lt}
use Rattle.values.specs.inside.normal_image.Placed.{GoodLeaf}
use Rattle.values.specs.normal_image.Normal.{norm}
use Rattle.values.specs.reading.Leaf.{Leaf, flag, byte, int, word, str, width, is_true, chars, clipped, emit}
use Rattle.values.specs.reading.Leaf.{signed}
use Rattle.values.specs.stream.Stream.{bool, number, text}
use Rattle.values.proofs.normal_image.CharLaws.{chars_ext, chars_tell, length_chars}

-- ---- one leaf: its normal bits read the same

truth_digit : (t : Bool) → is_true (digit t) ≡ t
truth_digit true = refl
truth_digit false = refl

norm_len : (c : ℕ) (b : Bits) (k : ℕ) → k < 32 → norm (str c) b k ≡ bit_of (clipped c b) k
norm_len c b k h = rw (lt-ltb k 32 h) refl

norm_text : (c : ℕ) (b : Bits) (k : ℕ) → k < 8 * clipped c b → norm (str c) b (32 + k) ≡ b (32 + k)
norm_text c b k h =
    let p : 32 + k - 32 ≡ k = omega arith in
    rw (le-ltb (32 + k) 32 (omega arith), p, lt-ltb k (8 * clipped c b) h) refl

clip_same : (c : ℕ) (b d : Bits) → ((k : ℕ) → k < 32 + 8 * c → d k ≡ norm (str c) b k) → clipped c d ≡ clipped c b
clip_same c b d h =
    let small : clipped c b < 2 ^ 32 = omega (arith, val_below 32 b) in
    let e : val 32 d ≡ clipped c b
    = val_ext 32 d (bit_of (clipped c b)) (λ k l. h k (omega arith) ∙ norm_len c b k l)
    ∙ val_bit 32 (clipped c b) small in
    omega arith

-- a leaf's normal bits give the same entry as its bits do
pub emit_norm : (l : Leaf) (b d : Bits) → ((k : ℕ) → k < width l → d k ≡ norm l b k) → emit l d ≡ emit l b
emit_norm flag b d h = ap bool (h 0 (omega arith))
emit_norm byte b d h =
    let t : Bool = is_true (val 8 b) in
    let e : val 8 d ≡ digit t = val_ext 8 d (bit_of (digit t)) h ∙ val_bit 8 (digit t) (omega (arith, digit_lt t)) in
    ap (λ (x : ℕ). bool (is_true x)) e ∙ ap bool (truth_digit t)
emit_norm (int n) b d h = ap (λ (x : ℕ). number 2 (signed n x)) (val_ext n d b h)
emit_norm (word kind n) b d h = ap (number kind) (val_ext n d b h)
emit_norm (str c) b d h =
    ap (λ (n : ℕ). text (chars n (from 32 d))) (clip_same c b d h)
    ∙ ap text (chars_ext (clipped c b) (from 32 d) (from 32 b)
    (λ k l. h (32 + k) (omega arith) ∙ norm_text c b k l))

-- ---- and what it reads tells its normal bits

signed_tells : (n x y : ℕ) → 1 ≤ n → n ≤ 64 → x < 2 ^ n → y < 2 ^ n → signed n x ≡ signed n y → x ≡ y
unfolding signed
signed_tells n x y a b p q e =
    go (ltb x (2 ^ (n - 1))) (ltb y (2 ^ (n - 1))) refl refl e
  where
    top : 2 ^ n ≤ 2 ^ 64
    top = pow_mono b

    half : 2 ^ n ≡ 2 ^ (n - 1) * 2
    half = (let m : n ≡ suc (n - 1) = omega arith in ap (λ (k : ℕ). 2 ^ k) m) ∙ pow-suc 2 (n - 1)

    go : (s t : Bool) → ltb x (2 ^ (n - 1)) ≡ s → ltb y (2 ^ (n - 1)) ≡ t
        → cond s x (x + (2 ^ 64 - 2 ^ n)) ≡ cond t y (y + (2 ^ 64 - 2 ^ n)) → x ≡ y
    go true true u v e = e
    go true false u v e =
        absurd (let z : ⊥ = omega (arith, ltb-true x (2 ^ (n - 1)) u, ltb-false y (2 ^ (n - 1)) v, top, half, e) in z)
    go false true u v e =
        absurd (let z : ⊥ = omega (arith, ltb-false x (2 ^ (n - 1)) u, ltb-true y (2 ^ (n - 1)) v, top, half, e) in z)
    go false false u v e = omega (arith, e)

number_tells : {k x y : ℕ} → number k x ≡ number k y → x ≡ y
number_tells e = cc

bool_tells : (x y : Bool) → bool x ≡ bool y → x ≡ y
bool_tells x y e = sym (truth_digit x) ∙ ap is_true (number_tells e) ∙ truth_digit y

text_tells : {xs ys : List ℕ} → text xs ≡ text ys → xs ≡ ys
text_tells e = cc

-- bits that give the same entry of a leaf have the same normal bits
pub emit_tells : (l : Leaf) → GoodLeaf l → (b c : Bits) → emit l b ≡ emit l c → (k : ℕ) → k < width l
    → norm l b k ≡ norm l c k
emit_tells flag g b c e k l = let z : k ≡ 0 = omega arith in rw z (bool_tells (b 0) (c 0) e)
emit_tells byte g b c e k l =
    ap (λ (t : Bool). bit_of (digit t) k) (bool_tells (is_true (val 8 b)) (is_true (val 8 c)) e)
emit_tells (int n) (u, v) b c e k l =
    val_tells n b c (signed_tells n (val n b) (val n c) u v (val_below n b) (val_below n c) (number_tells e)) k l
emit_tells (word kind n) g b c e k l = val_tells n b c (number_tells e) k l
emit_tells (str m) g b c e k l = go (ltb k 32) refl (ltb (k - 32) (8 * clipped m b)) refl
  where
    same : chars (clipped m b) (from 32 b) ≡ chars (clipped m c) (from 32 c)
    same = text_tells e

    clip : clipped m b ≡ clipped m c
    clip = sym (length_chars (clipped m b) (from 32 b)) ∙ ap length same ∙ length_chars (clipped m c) (from 32 c)

    inner : chars (clipped m b) (from 32 b) ≡ chars (clipped m b) (from 32 c)
    inner = same ∙ ap (λ (n : ℕ). chars n (from 32 c)) (sym clip)

    go : (s : Bool) → ltb k 32 ≡ s → (t : Bool) → ltb (k - 32) (8 * clipped m b) ≡ t
        → cond (ltb k 32) (bit_of (clipped m b) k) (ltb (k - 32) (8 * clipped m b) && b k)
        ≡ cond (ltb k 32) (bit_of (clipped m c) k) (ltb (k - 32) (8 * clipped m c) && c k)
    go true p t q = rw (p, clip) refl
    go false p true q =
        let j : 32 + (k - 32) ≡ k = omega (arith, ltb-false k 32 p) in
        let bit = rw j at (chars_tell (clipped m b) (from 32 b) (from 32 c) inner (k - 32)
        (ltb-true (k - 32) (8 * clipped m b) q)) in
        rw (p, ← clip, q) bit
    go false p false q = rw (p, ← clip, q) refl
