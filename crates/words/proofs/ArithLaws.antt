-- Laws of plain numbers: products and quotients that are compared without being made, tests by a bound, places before
-- and after a range, and how many bits of a stretch come before one.
use Prim.Native.Nat.{ℕ, suc, ◌+◌, ◌-◌, ◌*◌, ◌/◌, ◌%◌, ◌^◌, ◌≤◌, ◌<◌}
use native.Mathlib.Decide.{dec_le, dec_lt, ℕ_discrete}
use native.Mathlib.Nat.{add-zero, div-add-mod, div-lt_iff_lt-mul, div-mul-le_self, le-div_iff_mul-le, mul_assoc}
use native.Mathlib.Nat.{mul_comm, mul-le-mul, mul-le-mul_left, mul-suc, zero-mul}
use native.Mathlib.Omega.{arith}
use mathlib.Core.Bool.{Bool, true, false}
use mathlib.Core.Logic.{◌⊎◌, ⊎_elim}
use mathlib.Core.Path.{◌≡◌, refl, sym, ap, ◌∙◌}
use borrow.Author.Tests.{eq-eqb, eqb-false, eqb-true, le-leb, le-ltb, leb-false, leb-true, lt-leb, lt-ltb, ne_eqb}
use lib.Arith.{digits_div, digits_mod}
use lib.Dec.{eqb, leb, ltb}

-- ---- products and quotients

-- a product of two words of 32 bits leaves room in 64 for a third to be added
pub product_most : {a b : ℕ} → a < 2 ^ 32 → b < 2 ^ 32 → a * b ≤ 0xFFFF_FFFE_0000_0001
product_most {a} {b} h k =
    mul-le-mul {n₁ = a} {m₁ = b} {n₂ = 0xFFFF_FFFF} {m₂ = 0xFFFF_FFFF} (omega arith) (omega arith)

-- the multiple of a number that x is rounded up to is less than that number above x
pub align_most : (x a : ℕ) → (x + (a - 1)) / a * a ≤ x + (a - 1)
align_most x a = div-mul-le_self (x + (a - 1)) a

-- where n elements of a size have room, element i has room
pub element_room : (size i n base long : ℕ) → i < n → base + size * n ≤ long → base + size * i + size ≤ long
element_room size i n base long l h =
    omega (arith, mul-suc size i, mul-le-mul_left {m = suc i} {n = n} size (omega arith))

-- n times the bits of w bytes are the bits of w * n bytes
pub array_bits : (n w k : ℕ) → k ≡ 8 * w → n * k ≡ 8 * (w * n)
array_bits n w k e = ap (n *◌) e ∙ mul_comm n (8 * w) ∙ mul_assoc 8 w n

-- 0 times anything is at most any bound
pub fits_zero : (a b m : ℕ) → a ≡ 0 → true ≡ leb (a * b) m
fits_zero a b m e = rw e (sym (le-leb (0 * b) m (omega arith)))

-- a product is at most a bound just where the second factor is at most the bound over the first
pub fits_div : (a b m : ℕ) → (a ≡ 0 → ⊥) → leb b (m / a) ≡ leb (a * b) m
fits_div a b m n = go (dec_le b (m / a))
  where
    some : 0 < a
    some = omega (arith, n)

    go : Dec (b ≤ m / a) → leb b (m / a) ≡ leb (a * b) m
    go (yes h) = le-leb b (m / a) h ∙ sym (le-leb (a * b) m (rw (mul_comm a b) ((le-div_iff_mul-le some).0 h)))
    go (no h) =
        let l : m / a < b = omega (arith, h) in
        lt-leb b (m / a) l ∙ sym (lt-leb (a * b) m (rw (mul_comm a b) ((div-lt_iff_lt-mul some).0 l)))

-- a size of 0: a length is the product where it is 0
pub product_none : (long size n : ℕ) → size ≡ 0 → eqb long 0 ≡ eqb long (size * n)
product_none long size n e = ap (eqb long) (sym (ap (λ (s : ℕ). s * n) e ∙ zero-mul n))

module _ (long size n : ℕ) (some : size ≡ 0 → ⊥) where
  exact : long ≡ size * n → (long % size ≡ 0) × (long / size ≡ n)
  exact e =
      let p : long ≡ n * size + 0 = e ∙ mul_comm size n ∙ sym (add-zero (n * size)) in (
        ap (λ (k : ℕ). k % size) p ∙ digits_mod n (omega (arith, some)),
        ap (λ (k : ℕ). k / size) p ∙ digits_div n (omega (arith, some)),
      )

  -- a length that the size does not divide is not the product
  pub product_not : (long % size ≡ 0 → ⊥) → false ≡ eqb long (size * n)
  product_not r = sym (ne_eqb long (size * n) (λ e. r (exact e).0))

  -- a length that the size divides is the product where the quotient is the count
  pub product_is : long % size ≡ 0 → eqb (long / size) n ≡ eqb long (size * n)
  product_is r = go (eqb (long / size) n) refl
    where
      go : (b : Bool) → eqb (long / size) n ≡ b → b ≡ eqb long (size * n)
      go true e =
          let p : size * n ≡ long
          = ap (λ (k : ℕ). size * k) (sym (eqb-true (long / size) n e)) ∙ omega (arith, div-add-mod long size, r) in
          sym (eq-eqb long (size * n) (sym p))
      go false e = sym (ne_eqb long (size * n) (λ p. eqb-false (long / size) n e (exact p).1))

-- what was computed of two counts is that of the same two counts
pub same_counts : {A : Type 0} (f : ℕ → ℕ → A) (k : ℕ) {r : A} {a b c d : ℕ} → r ≡ f a (k + b) → a ≡ c → b ≡ d
    → r ≡ f c (k + d)
same_counts f k e p q = e ∙ rw (p, q)

-- ---- tests by a bound

-- a number is 0 just where it is at most 0
pub none_most : (x : ℕ) → eqb x 0 ≡ leb x 0
none_most x = go (ℕ_discrete x 0)
  where
    go : Dec (x ≡ 0) → eqb x 0 ≡ leb x 0
    go (yes h) = eq-eqb x 0 h ∙ sym (le-leb x 0 (omega arith))
    go (no h) = ne_eqb x 0 h ∙ sym (lt-leb x 0 (omega arith))

-- a number is below a bound just where it is at most the number before the bound
pub below_most : (bound most x : ℕ) → most + 1 ≡ bound → ltb x bound ≡ leb x most
below_most bound most x e = go (dec_le x most)
  where
    go : Dec (x ≤ most) → ltb x bound ≡ leb x most
    go (yes h) = lt-ltb x bound (omega arith) ∙ sym (le-leb x most h)
    go (no h) = le-ltb x bound (omega arith) ∙ sym (lt-leb x most (omega arith))

-- a number of 64 bits lies at most `low` below 2^64 just where it is above the number that lies one more below
pub low_test : (low under x : ℕ) → x < 2 ^ 64 → under + low + 1 ≡ 2 ^ 64 → leb (2 ^ 64 - x) low ≡ ltb under x
low_test low under x l e = go (dec_lt under x)
  where
    go : Dec (under < x) → leb (2 ^ 64 - x) low ≡ ltb under x
    go (yes h) = le-leb (2 ^ 64 - x) low (omega arith) ∙ sym (lt-ltb under x h)
    go (no h) = lt-leb (2 ^ 64 - x) low (omega arith) ∙ sym (le-ltb under x (omega arith))

-- where n bytes have room at all, a place has room for them just where it is at most the length less n
pub room_test : (n at long : ℕ) → n ≤ long → leb at (long - n) ≡ leb (at + n) long
room_test n at long l = go (leb at (long - n)) refl
  where
    go : (b : Bool) → leb at (long - n) ≡ b → b ≡ leb (at + n) long
    go true e = sym (le-leb (at + n) long (let a = leb-true at (long - n) e in omega arith))
    go false e = sym (lt-leb (at + n) long (let a = leb-false at (long - n) e in omega arith))

-- ---- before and after a range

-- a number that is none of the n from p on, and not before them, is after them
pub past_range : (p n k : ℕ) → p ≤ k → (p ≤ k → k < p + n → ⊥) → p + n ≤ k
past_range p n k a f = go (dec_lt k (p + n))
  where
    go : Dec (k < p + n) → p + n ≤ k
    go (yes l) = absurd (f a l)
    go (no l) = omega (arith, l)

-- a number that is none of the n from p on, and not after them, is before them
pub before_range : (p n k : ℕ) → (p ≤ k → k < p + n → ⊥) → k < p + n → k < p
before_range p n k f b = go (dec_lt k p)
  where
    go : Dec (k < p) → k < p
    go (yes l) = l
    go (no l) = absurd (f (omega (arith, l)) b)

-- ---- a stretch of bits

-- how many of the bits from f to g come before bit x
unfoldable pub below : ℕ → ℕ → ℕ → ℕ
below x f g = x - f - (x - g)

-- before the next bit comes one more of them at most
pub below_more : (x f g : ℕ) → below (suc x) f g ≤ suc (below x f g)
unfolding below
below_more x f g = omega arith

-- before the bit after one that is none of them come as many
pub below_same : (x f g : ℕ) → (x < f) ⊎ (g ≤ x) → below (suc x) f g ≡ below x f g
unfolding below
below_same x f g = ⊎_elim (λ l. omega arith) (λ l. omega arith)

-- before a bit past their end come all of them
pub below_all : (x f k : ℕ) → f + k ≤ x → below x f (f + k) ≡ k
unfolding below
below_all x f k l = omega arith

-- before bit 0 comes none of them
pub below_none : (f g : ℕ) → below 0 f g ≡ 0
unfolding below
below_none f g = omega arith
