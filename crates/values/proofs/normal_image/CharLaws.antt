-- Bytes of bits (document 01, "Value stream": the text of a string): so many bytes are told by their bits, tell them,
-- and are these bits again.
use Prim.Native.Nat.{ℕ, zero, suc, ◌+◌, ◌-◌, ◌*◌, ◌/◌, ◌%◌, ◌<◌, ◌≤◌}
use native.Mathlib.Decide.{dec_lt}
use native.Mathlib.Omega.{arith}
use mathlib.Core.Path.{◌≡◌, refl, sym, ap, ap₂, ◌∙◌, fun_ext}
use mathlib.Core.Bool.{Bool, true, false}
use mathlib.Core.List.{◌∷◌}
use lib.Dec.{ltb}
use lib.ListN.{length, get_or}
use borrow.Author.Tests.{ltb-true, ltb-false}
use Rattle.words.specs.Bits.{Bits, bit_of, flat, from, val}
use Rattle.words.proofs.BitLaws.{bit_none, bit_val, val_ext}
use Rattle.words.proofs.Lists.{head_same, tail_same}
use Rattle.values.specs.reading.Leaf.{chars}

-- bits made into n bytes are n bytes long
pub length_chars : (n : ℕ) (b : Bits) → length (chars n b) ≡ n
unfolding chars
length_chars zero b = refl
length_chars (suc n) b = ap suc (length_chars n (from 8 b))

-- the same bits make the same bytes
pub chars_ext : (n : ℕ) (b c : Bits) → ((k : ℕ) → k < 8 * n → b k ≡ c k) → chars n b ≡ chars n c
unfolding chars
chars_ext zero b c h = refl
chars_ext (suc n) b c h =
    ap₂ ◌∷◌ (val_ext 8 b c (λ k l. h k (omega arith)))
    (chars_ext n (from 8 b) (from 8 c) (λ k l. h (8 + k) (omega arith)))

-- where n bytes made of bits are the same, the bits are the same
pub chars_tell : (n : ℕ) (b c : Bits) → chars n b ≡ chars n c → (k : ℕ) → k < 8 * n → b k ≡ c k
unfolding chars
chars_tell zero b c e k l = absurd (let z : ⊥ = omega arith in z)
chars_tell (suc n) b c e k l = go (ltb k 8) refl (chars_tell n (from 8 b) (from 8 c) (tail_same e))
  where
    v : val 8 b ≡ val 8 c
    v = head_same e

    go : (t : Bool) → ltb k 8 ≡ t → ((j : ℕ) → j < 8 * n → b (8 + j) ≡ c (8 + j)) → b k ≡ c k
    go true q rest =
        let h = ltb-true k 8 q in
        sym (bit_val 8 b k h) ∙ ap (λ (x : ℕ). bit_of x k) v ∙ bit_val 8 c k h
    go false q rest =
        let h = ltb-false k 8 q in
        let j : 8 + (k - 8) ≡ k = omega arith in
        rw j at (rest (k - 8) (omega arith))

-- ---- seen as bits again

chars_at : (n : ℕ) (b : Bits) (i : ℕ) → i < n → get_or (chars n b) i 0 ≡ val 8 (from (8 * i) b)
unfolding chars
chars_at zero b i l = absurd (let z : ⊥ = omega arith in z)
chars_at (suc n) b zero l = ap (val 8) (fun_ext (λ k. ap b (omega arith)))
chars_at (suc n) b (suc i) l =
    chars_at n (from 8 b) i (omega arith) ∙ ap (val 8) (fun_ext (λ k. ap b (omega arith)))

chars_out : (n : ℕ) (b : Bits) (i : ℕ) → n ≤ i → get_or (chars n b) i 0 ≡ 0
unfolding chars
chars_out zero b i l = refl
chars_out (suc n) b zero l = absurd (let z : ⊥ = omega arith in z)
chars_out (suc n) b (suc i) l = chars_out n (from 8 b) i (omega arith)

-- bits made into bytes are these bits again, where none is set past the bytes
pub flat_chars : (n : ℕ) (b : Bits) → ((k : ℕ) → 8 * n ≤ k → b k ≡ false) → flat (chars n b) ≡ b
unfolding flat
flat_chars n b none = fun_ext (λ k. go k (dec_lt k (8 * n)))
  where
    go : (k : ℕ) → Dec (k < 8 * n) → bit_of (get_or (chars n b) (k / 8) 0) (k % 8) ≡ b k
    go k (yes l) =
        let j : 8 * (k / 8) + k % 8 ≡ k = omega arith in
        ap (λ (x : ℕ). bit_of x (k % 8)) (chars_at n b (k / 8) (omega arith))
        ∙ bit_val 8 (from (8 * (k / 8)) b) (k % 8) (omega arith) ∙ ap b j
    go k (no l) =
        ap (λ (x : ℕ). bit_of x (k % 8)) (chars_out n b (k / 8) (omega (arith, l)))
        ∙ bit_none (k % 8) ∙ sym (none k (omega (arith, l)))
