-- Bits put over others, and bytes set in a list as bits: some bytes stored at a place are their bits put over the
-- list's from there on, and bits put one after the other are one run of bits.
use Prim.Native.Nat.{ℕ, zero, suc, ◌+◌, ◌-◌, ◌*◌, ◌/◌, ◌%◌, ◌^◌, ◌<◌, ◌≤◌}
use native.Mathlib.Decide.{dec_lt}
use native.Mathlib.Nat.{div-div-eq-div-mul, mul_assoc, pow-succ'}
use native.Mathlib.Omega.{arith}
use mathlib.Core.Bool.{Bool, cond, false, true≢false, true, ◌||◌}
use mathlib.Core.List.{List, ◌∷◌}
use mathlib.Core.Logic.{inl, inr}
use mathlib.Core.Path.{◌≡◌, refl, sym, ap, ◌∙◌, fun_ext}
use lib.Dec.{eqb}
use lib.ListN.{length, get_or, set}
use lib.Pow.{pow-add}
use lib.Seq.{sets}
use Rattle.words.proofs.BitLaws.{BitLies, among, beside, bit_first, flat_with, lies}
use Rattle.words.proofs.Lists.{get_d_sets, get_d_beside}
use Rattle.words.proofs.WordLaws.{length_bytes}
use Rattle.words.specs.Bits.{Bits, bit_of, flat, from, inside, stamp, with_bit}
use Rattle.words.specs.Words.{bytes_of}

-- bits that agree where they are put
pub stamp_ext : (p n : ℕ) (b c z : Bits) → ((k : ℕ) → k < n → b k ≡ c k) → stamp p n b z ≡ stamp p n c z
unfolding stamp
stamp_ext p n b c z h = fun_ext (λ k. go k (lies p n k))
  where
    go : (k : ℕ) → BitLies p n k → cond (inside p n k) (b (k - p)) (z k) ≡ cond (inside p n k) (c (k - p)) (z k)
    go k (among l m e) = rw e (h (k - p) (omega arith))
    go k (beside f e) = rw e refl

-- no bits put over others leave these as they are
pub stamp_none : (p : ℕ) (b z : Bits) → stamp p 0 b z ≡ z
unfolding stamp
stamp_none p b z = fun_ext (λ k. go k (lies p 0 k))
  where
    go : (k : ℕ) → BitLies p 0 k → cond (inside p 0 k) (b (k - p)) (z k) ≡ z k
    go k (among l m e) = absurd (let y : ⊥ = omega arith in y)
    go k (beside f e) = rw e refl

-- two runs put one after the other are put as one
pub stamp_two : (p m n : ℕ) (b z : Bits) → stamp (p + m) n (from m b) (stamp p m b z) ≡ stamp p (m + n) b z
unfolding stamp
stamp_two p m n b z = fun_ext (λ k. go k (lies (p + m) n k) (lies p m k) (lies p (m + n) k) (dec_lt k (p + m)))
  where
    go : (k : ℕ) → BitLies (p + m) n k → BitLies p m k → BitLies p (m + n) k → Dec (k < p + m)
        → cond (inside (p + m) n k) (b (m + (k - (p + m)))) (cond (inside p m k) (b (k - p)) (z k))
        ≡ cond (inside p (m + n) k) (b (k - p)) (z k)
    go k (among l1 m1 e1) x (among l3 m3 e3) d = rw (e1, e3) (ap b (omega arith))
    go k (among l1 m1 e1) x (beside f3 e3) d = absurd (f3 (omega arith) (omega arith))
    go k (beside f1 e1) (among l2 m2 e2) (among l3 m3 e3) d = rw (e1, e2, e3) refl
    go k (beside f1 e1) (among l2 m2 e2) (beside f3 e3) d = absurd (f3 (omega arith) (omega arith))
    go k (beside f1 e1) (beside f2 e2) (among l3 m3 e3) (yes d) = absurd (f2 l3 d)
    go k (beside f1 e1) (beside f2 e2) (among l3 m3 e3) (no d) = absurd (f1 (omega (arith, d)) (omega arith))
    go k (beside f1 e1) (beside f2 e2) (beside f3 e3) d = rw (e1, e2, e3) refl

-- bytes stored in an image are their bits put over the image's from there on
pub flat_sets : (image : List ℕ) (at : ℕ) (bs : List ℕ) → at + length bs ≤ length image
    → flat (sets image at bs) ≡ stamp (8 * at) (8 * length bs) (flat bs) (flat image)
unfolding flat stamp
flat_sets image at bs l =
    fun_ext (λ k. go k (lies (8 * at) (8 * length bs) k) (dec_lt (k / 8) at) (dec_lt (k / 8) (at + length bs)))
  where
    go : (k : ℕ) → BitLies (8 * at) (8 * length bs) k → Dec (k / 8 < at) → Dec (k / 8 < at + length bs)
        → bit_of (get_or (sets image at bs) (k / 8) 0) (k % 8)
        ≡ cond (inside (8 * at) (8 * length bs) k) (bit_of (get_or bs ((k - 8 * at) / 8) 0) ((k - 8 * at) % 8))
        (bit_of (get_or image (k / 8) 0) (k % 8))
    go k (among a b e) d h =
        let c : k / 8 ≡ at + (k - 8 * at) / 8 = omega arith in
        let q : k % 8 ≡ (k - 8 * at) % 8 = omega arith in
        rw (e, c, q, get_d_sets image at bs ((k - 8 * at) / 8) 0 l (omega arith)) refl
    go k (beside f e) (yes d) h = rw (e, get_d_beside image at bs (k / 8) 0 (inl d)) refl
    go k (beside f e) (no d) (yes h) = absurd (f (omega (arith, d)) (omega arith))
    go k (beside f e) (no d) (no h) = rw (e, get_d_beside image at bs (k / 8) 0 (inr (omega (arith, h)))) refl

-- the bits of a number above its n low ones
high_bit : (n x k : ℕ) → bit_of x (n + k) ≡ bit_of (x / 2 ^ n) k
unfolding bit_of
high_bit n x k = rw (pow-add 2 n k, ← div-div-eq-div-mul x (2 ^ n) (2 ^ k))

-- a multiple of 2^n changes none of the n low bits
pub low_bit : (n r q k : ℕ) → k < n → bit_of (r + 2 ^ n * q) k ≡ bit_of r k
low_bit zero r q k l = absurd (let y : ⊥ = omega arith in y)
low_bit (suc n) r q zero l =
    let f : 2 ^ suc n * q ≡ 2 * (2 ^ n * q) = rw pow-succ' (mul_assoc 2 (2 ^ n) q) in
    let e : (r + 2 ^ suc n * q) % 2 ≡ r % 2 = omega arith in
    bit_first (r + 2 ^ suc n * q) ∙ ap (λ (v : ℕ). eqb v 1) e ∙ sym (bit_first r)
low_bit (suc n) r q (suc k) l =
    let f : 2 ^ suc n * q ≡ 2 * (2 ^ n * q) = rw pow-succ' (mul_assoc 2 (2 ^ n) q) in
    let e : (r + 2 ^ suc n * q) / 2 ^ 1 ≡ r / 2 ^ 1 + 2 ^ n * q = omega arith in
    let g : suc k ≡ 1 + k = omega arith in
    ap (bit_of (r + 2 ^ suc n * q)) g ∙ high_bit 1 (r + 2 ^ suc n * q) k ∙ ap (λ (v : ℕ). bit_of v k) e
    ∙ low_bit n (r / 2 ^ 1) q k (omega arith) ∙ sym (high_bit 1 r k) ∙ ap (bit_of r) (sym g)

-- the bits of a list's first byte, and of those after it
flat_first : (b : ℕ) (bs : List ℕ) (k : ℕ) → k < 8 → flat (b ∷ bs) k ≡ bit_of b k
unfolding flat
flat_first b bs k l =
    let e : k / 8 ≡ 0 = omega arith in
    let f : k % 8 ≡ k = omega arith in
    rw (e, f) refl

flat_after : (b : ℕ) (bs : List ℕ) (k : ℕ) → flat (b ∷ bs) (8 + k) ≡ flat bs k
unfolding flat
flat_after b bs k =
    let e : (8 + k) / 8 ≡ suc (k / 8) = omega arith in
    let f : (8 + k) % 8 ≡ k % 8 = omega arith in
    rw (e, f) refl

-- the bits of a number's w low bytes are the number's
pub flat_bytes : (w x k : ℕ) → k < 8 * w → flat (bytes_of w x) k ≡ bit_of x k
unfolding bytes_of
flat_bytes zero x k l = absurd (let y : ⊥ = omega arith in y)
flat_bytes (suc w) x k l = go (dec_lt k 8) (λ j h. flat_bytes w (x / 256) j h)
  where
    go : Dec (k < 8) → ((j : ℕ) → j < 8 * w → flat (bytes_of w (x / 256)) j ≡ bit_of (x / 256) j)
        → flat (x % 256 ∷ bytes_of w (x / 256)) k ≡ bit_of x k
    go (yes h) rest =
        let e : x % 256 + 2 ^ 8 * (x / 256) ≡ x = omega arith in
        flat_first (x % 256) (bytes_of w (x / 256)) k h ∙ sym (low_bit 8 (x % 256) (x / 256) k h)
        ∙ ap (λ (v : ℕ). bit_of v k) e
    go (no h) rest =
        let e : k ≡ 8 + (k - 8) = omega (arith, h) in
        ap (flat (x % 256 ∷ bytes_of w (x / 256))) e ∙ flat_after (x % 256) (bytes_of w (x / 256)) (k - 8)
        ∙ rest (k - 8) (omega arith) ∙ sym (high_bit 8 x (k - 8)) ∙ ap (bit_of x) (sym e)

-- a number stored in w bytes puts its bits there
pub flat_word : (image : List ℕ) (at w x : ℕ) → at + w ≤ length image
    → flat (sets image at (bytes_of w x)) ≡ stamp (8 * at) (8 * w) (bit_of x) (flat image)
flat_word image at w x l =
    flat_sets image at (bytes_of w x) (omega (arith, length_bytes w x))
    ∙ ap (λ (n : ℕ). stamp (8 * at) (8 * n) (flat (bytes_of w x)) (flat image)) (length_bytes w x)
    ∙ stamp_ext (8 * at) (8 * w) (flat (bytes_of w x)) (bit_of x) (flat image) (λ k h. flat_bytes w x k h)

-- a bit that is not inside is not from p on and before p + n
outside : (p n k : ℕ) → inside p n k ≡ false → p ≤ k → k < p + n → ⊥
outside p n k h = go (lies p n k)
  where
    go : BitLies p n k → p ≤ k → k < p + n → ⊥
    go (among a b e) = λ c d. true≢false (sym e ∙ h)
    go (beside f e) = f

-- a bit that is not from p on and before p + n is none of the n bits from p on
pub not_inside : (p n k : ℕ) → (p ≤ k → k < p + n → ⊥) → inside p n k ≡ false
not_inside p n k h = go (lies p n k)
  where
    go : BitLies p n k → inside p n k ≡ false
    go (among a b e) = absurd (h a b)
    go (beside f e) = e

-- what is not inside both parts of a run is not inside the first
pub first_part : (p m n k : ℕ) → inside p (m + n) k ≡ false → inside p m k ≡ false
first_part p m n k h = not_inside p m k (λ a b. outside p (m + n) k h a (omega arith))

-- what is not inside both parts of a run is not inside the second
pub second_part : (p m n k : ℕ) → inside p (m + n) k ≡ false → inside (p + m) n k ≡ false
second_part p m n k h = not_inside (p + m) n k (λ a b. outside p (m + n) k h (omega arith) (omega arith))

-- what is inside neither part of a run is not inside both
pub both_parts : (p m n k : ℕ) → inside p m k ≡ false → inside (p + m) n k ≡ false → inside p (m + n) k ≡ false
both_parts p m n k h g = not_inside p (m + n) k (λ a b. go a b (dec_lt k (p + m)))
  where
    go : p ≤ k → k < p + (m + n) → Dec (k < p + m) → ⊥
    go a b (yes l) = outside p m k h a l
    go a b (no l) = outside (p + m) n k g (omega (arith, l)) (omega arith)

-- a bit that is not inside stays as it was
pub stamp_beside : (p n : ℕ) (b z : Bits) (k : ℕ) → inside p n k ≡ false → stamp p n b z k ≡ z k
unfolding stamp
stamp_beside p n b z k e = rw e refl

-- a bit from p on and before p + n is one of the n bits from p on
pub yes_inside : (p n k : ℕ) → p ≤ k → k < p + n → inside p n k ≡ true
yes_inside p n k u v = go (lies p n k)
  where
    go : BitLies p n k → inside p n k ≡ true
    go (among x y e) = e
    go (beside q e) = absurd (q u v)

-- bits put over others that were put in the same place
pub stamp_again : (p n : ℕ) (b c z : Bits) → stamp p n b (stamp p n c z) ≡ stamp p n b z
unfolding stamp
stamp_again p n b c z = fun_ext (λ k. go k (inside p n k))
  where
    go : (k : ℕ) (t : Bool) → cond t (b (k - p)) (cond t (c (k - p)) (z k)) ≡ cond t (b (k - p)) (z k)
    go k true = refl
    go k false = refl

-- ---- one bit put over others

-- a byte with one bit set, stored: that bit is put over the others
pub flat_bit : (image : List ℕ) (at b : ℕ) {x : ℕ} (v : Bool) → x ≡ with_bit (get_or image at 0) b v → at < length image
    → b < 8
    → flat (set image at x) ≡ stamp (8 * at + b) 1 (λ i. v) (flat image)
flat_bit image at b {x} v e l h = ap (λ y. flat (set image at y)) e ∙ flat_with image at b v l h

-- one bit of some others, put where it goes
pub one_bit : (q r j : ℕ) (v : Bool) (b z : Bits) → q ≡ r → v ≡ b j → stamp q 1 (λ i. v) z ≡ stamp r 1 (from j b) z
one_bit q r j v b z e h =
    ap (λ (p : ℕ). stamp p 1 (λ i. v) z) e
    ∙ stamp_ext r 1 (λ i. v) (from j b) z (λ i l. let f : j ≡ j + i = omega arith in h ∙ ap b f)

-- a bit that is put where a test says so changes none before it
pub cond_beside : (c : Bool) (k i : ℕ) (b z : Bits) → i < k → cond c (stamp k 1 b z) z i ≡ z i
unfolding stamp
cond_beside true k i b z l = go (lies k 1 i)
  where
    go : BitLies k 1 i → cond (inside k 1 i) (b (i - k)) (z i) ≡ z i
    go (among m n e) = absurd (let y : ⊥ = omega arith in y)
    go (beside f e) = rw e refl
cond_beside false k i b z l = refl

-- and is there where the test is passed
pub cond_own : (c : Bool) (k i q : ℕ) (b z : Bits) → i ≡ k → c ≡ true → cond c (stamp k 1 (from q b) z) z i ≡ b q
unfolding stamp
cond_own c k i q b z e h = rw h (go (lies k 1 i))
  where
    go : BitLies k 1 i → cond (inside k 1 i) (b (q + (i - k))) (z i) ≡ b q
    go (among m n f) = let g : q + (i - k) ≡ q = omega arith in rw f (ap b g)
    go (beside f g) = absurd (f (omega arith) (omega arith))

-- a bit of x that was put elsewhere, put back: beside what else is x's, that bit is
pub one_back : (b x : Bits) (q j : ℕ) (y : Bits) (k : ℕ) (h : Bool) → b j ≡ x q
    → cond h (x k) (stamp q 1 (from j b) y k) ≡ cond (inside q 1 k || h) (x k) (y k)
unfolding stamp
one_back b x q j y k h e = go (lies q 1 k) h
  where
    go : BitLies q 1 k → (h : Bool)
        → cond h (x k) (cond (inside q 1 k) (b (j + (k - q))) (y k)) ≡ cond (inside q 1 k || h) (x k) (y k)
    go (among l m i) true = rw i refl
    go (among l m i) false =
        let f : j + (k - q) ≡ j = omega arith in
        let g : q ≡ k = omega arith in
        rw i (ap b f ∙ e ∙ ap x g)
    go (beside f i) h = rw i refl
