-- Laws of the handle's fold: its rotation, that a fold over two pieces is the fold of the second from the first, and
-- that a handle fits 16 bits.
use Prim.Native.Nat.{ℕ, ◌+◌, ◌*◌, ◌/◌, ◌%◌, ◌^◌, ◌<◌}
use native.Mathlib.Decide.{dec_lt}
use native.Mathlib.Omega.{arith}
use mathlib.Core.Path.{◌≡◌, refl}
use mathlib.Core.List.{List, [], ◌∷◌, ◌++◌}
use borrow.Author.Tests.{eq-eqb, ne_eqb}
use lib.Bits.{bit_or}
use Rattle.std.specs.List.{fold}
use Rattle.std.proofs.lemmas.Nat.{or_shifted}
use Rattle.types.specs.templates.Handle.{fold_byte, fold_from, not_zero, handle_of}

-- a number of 16 bits rotated left by 5 is the sum of its two parts
pub rotated : (h : ℕ) → h < 65536 → bit_or (h * 32 % 65536) (h / 2048) ≡ h * 32 % 65536 + h / 2048
rotated h l =
    let e : h * 32 % 65536 ≡ h % 2048 * 2 ^ 5 = omega arith in
    rw e (or_shifted (h % 2048) 5 (h / 2048) (omega arith))

-- the handle's fold is the fold of its step over the bytes
pub fold_is : (h : ℕ) (s : List ℕ) → fold fold_byte h s ≡ fold_from h s
unfolding fold_from
fold_is h [] = refl
fold_is h (b ∷ bs) = fold_is (fold_byte h b) bs

-- the fold of two pieces is that of the second from the fold of the first on
pub fold_append : (h : ℕ) (a b : List ℕ) → fold_from h (a ++ b) ≡ fold_from (fold_from h a) b
unfolding fold_from
fold_append h [] b = refl
fold_append h (x ∷ a) b = fold_append (fold_byte h x) a b

-- a handle of 0 becomes 1
pub zero_one : (h : ℕ) → h ≡ 0 → 1 ≡ not_zero h
unfolding not_zero
zero_one h e = simp (eq-eqb h 0 e)

-- any handle but 0 stays as it is
pub other_same : (h : ℕ) → (h ≡ 0 → ⊥) → h ≡ not_zero h
unfolding not_zero
other_same h e = simp (ne_eqb h 0 e)

-- it fits 16 bits
fold_small : (h : ℕ) (s : List ℕ) → h < 65536 → fold_from h s < 65536
unfolding fold_from
fold_small h [] l = l
fold_small h (b ∷ bs) l = fold_small (fold_byte h b) bs (omega arith)

not_zero_small : (h : ℕ) → h < 65536 → not_zero h < 65536
not_zero_small h l = go (dec_lt 0 h)
  where
    go : Dec (0 < h) → not_zero h < 65536
    go (yes o) = rw (← other_same h (λ e. omega arith)) l
    go (no o) = rw (← zero_one h (omega (arith, o))) (omega arith)

-- a handle fits 16 bits
pub handle_small : (s : List ℕ) → handle_of s < 65536
unfolding handle_of
handle_small s = not_zero_small (fold_from 0x1D0F s) (fold_small 0x1D0F s (omega arith))
