-- What a comparison of bytes tells, and what each way out of the comparison with an expectation answers (document 01,
-- last paragraph of "Refusal numbers").
use Prim.Native.Nat.{ℕ, ◌-◌, ◌<◌, ◌≤◌}
use mathlib.Core.Path.{◌≡◌, refl, sym, ◌∙◌}
use mathlib.Core.Bool.{Bool, true, false, ◌&&◌}
use mathlib.Core.List.{List, [], ◌∷◌}
use borrow.Author.Tests.{eq-eqb, ne_eqb, eqb-true, le-leb, lt-leb}
use lib.Dec.{eqb}
use lib.ListN.{length, take, drop, get_or}
use Rattle.words.proofs.Lists.{rest_lent}
use Rattle.cases.specs.Expected.{same_bytes, zeros, accepts, refuses, agrees_of}

-- ---- the same bytes

same_on : (x y : ℕ) (xs ys : List ℕ) → x ≡ y → same_bytes (x ∷ xs) (y ∷ ys) ≡ same_bytes xs ys
unfolding same_bytes
same_on x y xs ys e = simp (eq-eqb _ _ e)

same_self : (xs : List ℕ) → same_bytes xs xs ≡ true
unfolding same_bytes
same_self [] = refl
same_self (x ∷ xs) = same_on x x xs xs refl ∙ same_self xs

same_head : (x y : ℕ) (xs ys : List ℕ) → (same_bytes xs ys ≡ true → xs ≡ ys) → (b : Bool) → eqb x y ≡ b
    → (b && same_bytes xs ys) ≡ true → ◌≡◌ {A = List ℕ} (x ∷ xs) (y ∷ ys)
same_head x y xs ys rest true p q =
    let h : x ≡ y = eqb-true _ _ p in
    let t : xs ≡ ys = rest q in
    cc
same_head x y xs ys rest false p q = cc

same_only : (xs ys : List ℕ) → same_bytes xs ys ≡ true → xs ≡ ys
unfolding same_bytes
same_only [] [] e = refl
same_only [] (y ∷ ys) e = cc
same_only (x ∷ xs) [] e = cc
same_only (x ∷ xs) (y ∷ ys) e = same_head x y xs ys (same_only xs ys) (eqb x y) refl e

-- a test that is true just where two lists are equal
pub told : (xs ys : List ℕ) (r : Bool) → (r ≡ true → xs ≡ ys) × (xs ≡ ys → r ≡ true) → r ≡ same_bytes xs ys
told xs ys true h = sym (rw (h.0 refl) (same_self ys))
told xs ys false h = sym (off (same_bytes xs ys) (λ e. h.1 (same_only xs ys e)))
  where
    off : (b : Bool) → (b ≡ true → ◌≡◌ {A = Bool} false true) → b ≡ false
    off true n = sym (n refl)
    off false n = refl

-- a comparison with the rest of a list
pub told_rest : (s : List ℕ) (k : ℕ) {ys : List ℕ} {r : Bool}
    → (r ≡ true → take (length s - k) (drop k s) ≡ ys) × (take (length s - k) (drop k s) ≡ ys → r ≡ true)
    → r ≡ same_bytes (drop k s) ys
told_rest s k {ys} {r} h = told (take (length s - k) (drop k s)) ys r h ∙ rw rest_lent

-- ---- no refusal

module _ (bytes answer : List ℕ) {none : Bool} (n : none ≡ same_bytes (take 5 answer) zeros) where
  -- after five zeros an answer is as form 0 asks just where the bytes that follow are
  pub accepts_rest : none ≡ true → {r : Bool} → r ≡ same_bytes (drop 5 answer) bytes → r ≡ accepts bytes answer
  unfolding accepts
  accepts_rest t e = rw (sym n, t) e

  -- an answer that does not begin with five zeros is not as form 0 asks
  pub accepts_not : none ≡ false → false ≡ accepts bytes answer
  unfolding accepts
  accepts_not t = rw (sym n, t)

-- ---- any refusal

module _ (kind : ℕ) (image answer : List ℕ) where
  -- form 1 asks for a refusal, and an answer with number 0 is none
  pub refuses_none : get_or answer 0 0 < 1 → false ≡ refuses kind image answer
  unfolding refuses
  refuses_none h = simp (lt-leb _ _ h)

  module _ (h : 1 ≤ get_or answer 0 0) where
    -- form 1 asks for a refusal, and an answer with a number above 254 is none
    pub refuses_not : 254 < get_or answer 0 0 → false ≡ refuses kind image answer
    unfolding refuses
    refuses_not l = simp (le-leb _ _ h, lt-leb _ _ l)

    module _ (l : get_or answer 0 0 ≤ 254) where
      -- a refusal of a write is as form 1 asks just where the image stands as it was
      pub refuses_write : kind ≡ 6 → {r : Bool} → r ≡ same_bytes (drop 5 answer) image → r ≡ refuses kind image answer
      unfolding refuses
      refuses_write k e = simp (le-leb _ _ h, le-leb _ _ l, eq-eqb _ _ k) e

      -- a refusal of anything but a write is as form 1 asks
      pub refuses_other : (kind ≡ 6 → ⊥) → true ≡ refuses kind image answer
      unfolding refuses
      refuses_other k = simp (le-leb _ _ h, le-leb _ _ l, ne_eqb _ _ k)

-- ---- any expectation

module _ (kind : ℕ) (expected answer : List ℕ) where
  -- no answer agrees with an empty expectation
  pub agrees_empty : length expected < 1 → false ≡ agrees_of kind expected answer
  unfolding agrees_of
  agrees_empty h = simp (lt-leb _ _ h)

  module _ (h : 1 ≤ length expected) where
    -- an answer shorter than five bytes agrees with no expectation
    pub agrees_short : length answer < 5 → false ≡ agrees_of kind expected answer
    unfolding agrees_of
    agrees_short l = simp (le-leb _ _ h, lt-leb _ _ l)

    module _ (l : 5 ≤ length answer) where
      -- in form 0 an answer agrees just where it has no refusal and exactly the expected bytes
      pub agrees_bytes : get_or expected 0 0 ≡ 0 → {r : Bool} → r ≡ accepts (drop 1 expected) answer
          → r ≡ agrees_of kind expected answer
      unfolding agrees_of
      agrees_bytes f e = simp (le-leb _ _ h, le-leb _ _ l, f) e

      -- in form 1 an answer agrees just where it is any refusal, after that of a write with the image as it was
      pub agrees_refused : get_or expected 0 0 ≡ 1 → {r : Bool} → r ≡ refuses kind (drop 1 expected) answer
          → r ≡ agrees_of kind expected answer
      unfolding agrees_of
      agrees_refused f e = simp (le-leb _ _ h, le-leb _ _ l, f) e

      -- in form 2 an answer agrees just where it is exactly the expected bytes
      pub agrees_exactly : get_or expected 0 0 ≡ 2 → {r : Bool} → r ≡ same_bytes answer (drop 1 expected)
          → r ≡ agrees_of kind expected answer
      unfolding agrees_of
      agrees_exactly f e = simp (le-leb _ _ h, le-leb _ _ l, f) e

      -- in any other form no answer agrees
      pub agrees_unknown : (get_or expected 0 0 ≡ 0 → ⊥) → (get_or expected 0 0 ≡ 1 → ⊥) → (get_or expected 0 0 ≡ 2 → ⊥)
          → false ≡ agrees_of kind expected answer
      unfolding agrees_of
      agrees_unknown a b d = simp (le-leb _ _ h, le-leb _ _ l, ne_eqb _ _ a, ne_eqb _ _ b, ne_eqb _ _ d)
