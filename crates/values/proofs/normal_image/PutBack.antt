-- What a leaf gives, it takes back (document 01, "Writing", "Normal image"): the bits that its entry sets are the
-- leaf's normal bits.
use Prim.Native.Nat.{ℕ, suc, ◌+◌, ◌-◌, ◌*◌, ◌^◌, ◌<◌, ◌≤◌}
use native.Mathlib.Nat.{pow-suc, mul_comm}
use native.Mathlib.Omega.{arith}
use mathlib.Core.Path.{◌≡◌, refl, ap, ◌∙◌}
use mathlib.Core.Bool.{Bool, true, false, cond, ◌&&◌}
use mathlib.Core.List.{List, ◌++◌}
use lib.Dec.{eqb, leb, ltb}
use lib.ListN.{length}
use lib.Pow.{high_ones, pow_mono}
use borrow.Author.Tests.{eq-eqb, ne_eqb, le-leb, lt-leb, lt-ltb, le-ltb, ltb-true, ltb-false}
use Rattle.words.specs.Bits.{Bits, from, bit_of, digit, flat, val}
use Rattle.words.specs.Words.{bytes_of}
use Rattle.words.proofs.BitLaws.{bit_val, val_below, append_first, append_second, digit_bit}
use Rattle.words.proofs.StampLaws.{flat_bytes, low_bit}
use Rattle.words.proofs.WordLaws.{length_bytes}
use Rattle.values.specs.inside.normal_image.Placed.{GoodLeaf}
use Rattle.values.specs.normal_image.Normal.{norm}
use Rattle.values.specs.reading.Leaf.{Leaf, flag, byte, int, word, str, width, chars, clipped, emit, signed}
use Rattle.values.specs.stream.Stream.{number, text, kind_of}
use Rattle.values.specs.writing.Effects.{put, of_kind, in_range, whole, text_bits, as_text, taken}
use Rattle.values.proofs.normal_image.CharLaws.{chars_ext, flat_chars, length_chars}

-- a leaf takes the entry that it gives, and the bits set are its normal bits
pub record PutBack (l : Leaf) (b : Bits) : Type 0 where
  pub bits : Bits
  pub takes : taken l (emit l b) ≡ put bits
  pub normal : (k : ℕ) → k < width l → bits k ≡ norm l b k

-- its entry is a value: no null, no member number, no bracket
pub emit_value : (l : Leaf) → GoodLeaf l → (b : Bits) → (1 ≤ kind_of (emit l b)) × (kind_of (emit l b) ≤ 6)
emit_value flag g b = (omega arith, omega arith)
emit_value byte g b = (omega arith, omega arith)
emit_value (int n) g b = (omega arith, omega arith)
emit_value (word kind n) g b = (omega arith, omega arith)
emit_value (str c) g b = (omega arith, omega arith)

-- ---- a signed number

module _ (n v : ℕ) (some : 1 ≤ n) (most : n ≤ 64) where
  signed_bit : (k : ℕ) → k < n → bit_of (signed n v) k ≡ bit_of v k
  unfolding signed
  signed_bit k l = go (ltb v (2 ^ (n - 1)))
    where
      ones : 2 ^ 64 - 2 ^ n ≡ (2 ^ (64 - n) - 1) * 2 ^ n
      ones = (let e : 64 ≡ 64 - n + n = omega arith in ap (λ (j : ℕ). 2 ^ j - 2 ^ n) e) ∙ high_ones (64 - n) n

      go : (t : Bool) → bit_of (cond t v (v + (2 ^ 64 - 2 ^ n))) k ≡ bit_of v k
      go true = refl
      go false =
          ap (λ (x : ℕ). bit_of (v + x) k) (ones ∙ mul_comm (2 ^ (64 - n) - 1) (2 ^ n))
          ∙ low_bit n v (2 ^ (64 - n) - 1) k l

  signed_range : v < 2 ^ n → in_range (2 ^ (n - 1)) (2 ^ (n - 1)) 2 (signed n v) ≡ true
  unfolding signed
  signed_range h = go (ltb v (2 ^ (n - 1))) refl
    where
      half : 2 ^ n ≡ 2 ^ (n - 1) * 2
      half = (let m : n ≡ suc (n - 1) = omega arith in ap (λ (k : ℕ). 2 ^ k) m) ∙ pow-suc 2 (n - 1)

      top : 2 ^ (n - 1) ≤ 2 ^ 63
      top = pow_mono {i = n - 1} {j = 63} (omega arith)

      below : (x y : ℕ) → leb (2 ^ 63) x ≡ false → ltb x y ≡ true → in_range y y 2 x ≡ true
      below x y e f = unfold in_range in rw (e, f) refl

      above : (x y : ℕ) → leb (2 ^ 63) x ≡ true → leb (2 ^ 64 - x) y ≡ true → in_range y y 2 x ≡ true
      above x y e f = unfold in_range in rw (e, f) refl

      go : (t : Bool) → ltb v (2 ^ (n - 1)) ≡ t
          → in_range (2 ^ (n - 1)) (2 ^ (n - 1)) 2 (cond t v (v + (2 ^ 64 - 2 ^ n))) ≡ true
      go true e =
          below v (2 ^ (n - 1)) (lt-leb (2 ^ 63) v (omega (arith, top, ltb-true v (2 ^ (n - 1)) e))) e
      go false e =
          let low = ltb-false v (2 ^ (n - 1)) e in
          above (v + (2 ^ 64 - 2 ^ n)) (2 ^ (n - 1))
          (le-leb (2 ^ 63) (v + (2 ^ 64 - 2 ^ n)) (omega (arith, top, half, low)))
          (le-leb (2 ^ 64 - (v + (2 ^ 64 - 2 ^ n))) (2 ^ (n - 1)) (omega (arith, top, half, low)))

  signed_takes : v < 2 ^ n → taken (int n) (number 2 (signed n v)) ≡ put (bit_of (signed n v))
  unfolding whole
  signed_takes h = rw (signed_range h) refl

-- ---- any other number

word_takes : (kind n x : ℕ) → 3 ≤ kind → x < 2 ^ n → taken (word kind n) (number kind x) ≡ put (bit_of x)
unfolding whole in_range of_kind
word_takes kind n x a l = go (eqb kind 3) refl
  where
    not_two : eqb kind 2 ≡ false
    not_two = ne_eqb kind 2 (λ e. omega arith)

    go : (t : Bool) → eqb kind 3 ≡ t
        → cond t (whole 0 (2 ^ n) (number kind x)) (of_kind kind (number kind x)) ≡ put (bit_of x)
    go true e = rw (not_two, e, lt-ltb x (2 ^ n) l) refl
    go false e = rw (eq-eqb kind kind refl) refl

-- ---- a text

text_takes : (c : ℕ) (s : List ℕ) → length s ≤ c → taken (str c) (text s) ≡ put (text_bits s)
unfolding as_text
text_takes c s h = rw (le-leb (length s) c h) refl

-- bits made into n bytes and seen as bits again are the first 8 n of them
pub flat_clip : (n : ℕ) (b : Bits) (k : ℕ) → flat (chars n b) k ≡ (ltb k (8 * n) && b k)
flat_clip n b k =
    let c : Bits = λ j. ltb j (8 * n) && b j in
    ap (λ (s : List ℕ). flat s k) (chars_ext n b c (λ j l. rw (lt-ltb j (8 * n) l) refl))
    ∙ ap (λ (f : Bits). f k) (flat_chars n c (λ j l. rw (le-ltb j (8 * n) l) refl))

module _ (c : ℕ) (b : Bits) where
  abbrev body : List ℕ
  body = chars (clipped c b) (from 32 b)

  abbrev len : List ℕ
  len = bytes_of 4 (length body)

  text_normal : (k : ℕ) → text_bits body k ≡ norm (str c) b k
  text_normal k = go (ltb k 32) refl
    where
      four : length len ≡ 4
      four = length_bytes 4 (length body)

      go : (t : Bool) → ltb k 32 ≡ t
          → text_bits body k ≡ cond t (bit_of (clipped c b) k) (ltb (k - 32) (8 * clipped c b) && b k)
      go true e =
          let l = ltb-true k 32 e in
          append_first len body k (omega (arith, four))
          ∙ flat_bytes 4 (length body) k (omega arith)
          ∙ ap (λ (x : ℕ). bit_of x k) (length_chars (clipped c b) (from 32 b))
      go false e =
          let l = ltb-false k 32 e in
          let i : k ≡ 8 * length len + (k - 32) = omega (arith, four) in
          let j : 32 + (k - 32) ≡ k = omega arith in
          ap (flat (len ++ body)) i
          ∙ append_second len body (k - 32)
          ∙ flat_clip (clipped c b) (from 32 b) (k - 32)
          ∙ ap (λ (m : ℕ). ltb (k - 32) (8 * clipped c b) && b m) j

-- ---- each leaf

-- each leaf that types have takes back what it gives
pub put_back : (l : Leaf) → GoodLeaf l → (b : Bits) → PutBack l b
unfolding of_kind
put_back flag g b =
    record {
      bits = bit_of (digit (b 0));
      takes = refl;
      normal = λ k l. let z : k ≡ 0 = omega arith in rw z (digit_bit (b 0));
    }
put_back byte g b = record { bits = norm byte b; takes = refl; normal = λ k l. refl }
put_back (int n) (u, v) b =
    record {
      bits = bit_of (signed n (val n b));
      takes = signed_takes n (val n b) u v (val_below n b);
      normal = λ k l. signed_bit n (val n b) u v k l ∙ bit_val n b k l;
    }
put_back (word kind n) (u, v) b =
    record {
      bits = bit_of (val n b);
      takes = word_takes kind n (val n b) u (val_below n b);
      normal = λ k l. bit_val n b k l;
    }
put_back (str c) g b =
    record {
      bits = text_bits (body c b);
      takes = text_takes c (body c b) (omega (arith, length_chars (clipped c b) (from 32 b)));
      normal = λ k l. text_normal c b k;
    }
