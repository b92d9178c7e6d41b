-- Runs of entries and brackets around them, as the walk makes them (document 01, "Reading"): how a run splits, how long
-- it is, and what texts it has.
use Prim.Native.Nat.{ℕ, zero, suc, ◌+◌, ◌*◌, ◌<◌, ◌≤◌}
use native.Mathlib.Decide.{dec_le}
use native.Mathlib.Nat.{add-zero, add-suc, mul-one}
use native.Mathlib.Numerals.{add-one}
use native.Mathlib.Omega.{arith}
use mathlib.Core.Path.{◌≡◌, refl, sym, ap, ap₂, ◌∙◌}
use mathlib.Core.List.{List, [], ◌∷◌, ◌++◌, append_assoc, append-nil}
use lib.ListN.{length, length-append}
use Rattle.values.specs.inside.reading.Walk.{up_to, wrap}
use Rattle.values.specs.stream.Stream.{Token, mark, bodies}
use Rattle.values.proofs.stream.HeadLaws.{bodies_append}

-- runs that agree element for element are the same
pub up_ext : (g h : ℕ → List Token) (n : ℕ) → ((k : ℕ) → k < n → g k ≡ h k) → up_to g n ≡ up_to h n
unfolding up_to
up_ext g h zero e = refl
up_ext g h (suc n) e = ap₂ ◌++◌ (up_ext g h n (λ k l. e k (omega arith))) (e n (omega arith))

-- a run of one element more is the run, and then that element
pub up_more : (g : ℕ → List Token) (n : ℕ) → up_to g (n + 1) ≡ up_to g n ++ g n
unfolding up_to
up_more g n = rw add-one

-- a run is its first element, and then the run of the others
pub up_cons : (g : ℕ → List Token) (n : ℕ) → up_to g (suc n) ≡ g 0 ++ up_to (λ k. g (suc k)) n
unfolding up_to
up_cons g zero = sym (append-nil (g 0))
up_cons g (suc n) =
    ap (◌++ g (suc n)) (up_cons g n) ∙ append_assoc (g 0) (up_to (λ k. g (suc k)) n) (g (suc n))

-- a run is the run of its first i elements, and then the run of the others
pub up_split : (g : ℕ → List Token) (i n : ℕ) → up_to g (i + n) ≡ up_to g i ++ up_to (λ k. g (i + k)) n
unfolding up_to
up_split g i zero = rw add-zero (sym (append-nil (up_to g i)))
up_split g i (suc n) =
    rw (add-suc, up_split g i n) (append_assoc (up_to g i) (up_to (λ k. g (i + k)) n) (g (i + n)))

module _ (g : ℕ → List Token) where
  -- n elements of r entries each have n times r entries
  pub up_length : (r : ℕ) → ((k : ℕ) → length (g k) ≡ r) → (n : ℕ) → length (up_to g n) ≡ n * r
  unfolding up_to
  up_length r e zero = omega arith
  up_length r e (suc n) = length-append (up_to g n) (g n) ∙ omega (arith, up_length r e n, e n)

  -- n elements of at least r entries each have at least n times r entries
  pub up_least : (r : ℕ) → ((k : ℕ) → r ≤ length (g k)) → (n : ℕ) → n * r ≤ length (up_to g n)
  unfolding up_to
  up_least r e zero = omega arith
  up_least r e (suc n) = omega (arith, length-append (up_to g n) (g n), up_least r e n, e n)

  -- a longer run has no fewer
  pub up_grows : (j n : ℕ) → j ≤ n → length (up_to g j) ≤ length (up_to g n)
  unfolding up_to
  up_grows j zero h = let e : j ≡ 0 = omega arith in rw e (omega arith)
  up_grows j (suc n) h = go (dec_le j n) (up_grows j n)
    where
      go : Dec (j ≤ n) → (j ≤ n → length (up_to g j) ≤ length (up_to g n))
          → length (up_to g j) ≤ length (up_to g n ++ g n)
      go (yes l) ih = omega (arith, length-append (up_to g n) (g n), ih l)
      go (no l) ih = let e : j ≡ suc n = omega (arith, l) in rw e (omega arith)

  -- a run that is not empty has at least the entries of its first element
  pub up_first : (n : ℕ) → (n ≡ 0 → ⊥) → length (g 0) ≤ length (up_to g n)
  unfolding up_to
  up_first n z = up_grows 1 n (omega (arith, z))

-- n elements of one entry each have n entries
pub up_ones : (g : ℕ → List Token) (n : ℕ) → ((k : ℕ) → length (g k) ≡ 1) → length (up_to g n) ≡ n
up_ones g n e = up_length g 1 e n ∙ mul-one n

-- a run of elements without texts has no texts
pub up_bodies : (g : ℕ → List Token) → ((k : ℕ) → bodies (g k) ≡ []) → (n : ℕ) → bodies (up_to g n) ≡ []
unfolding up_to
up_bodies g e zero = unfold bodies in refl
up_bodies g e (suc n) = bodies_append (up_to g n) (g n) ∙ ap₂ ◌++◌ (up_bodies g e n) (e n)

-- ---- brackets

-- brackets are two entries more
pub wrap_length : (start stop : ℕ) (ts : List Token) → length (wrap start stop ts) ≡ 2 + length ts
wrap_length start stop ts = omega (arith, length-append ts (mark stop ∷ []))

-- brackets add no text
pub wrap_bodies : (start stop : ℕ) (ts : List Token) → bodies (wrap start stop ts) ≡ bodies ts
unfolding bodies
wrap_bodies start stop ts = bodies_append ts (mark stop ∷ []) ∙ append-nil (bodies ts)
