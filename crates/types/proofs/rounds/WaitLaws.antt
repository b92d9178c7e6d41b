-- Laws of the types that wait by their flags (document 01, "Order of building"): before, at and after one of them, the
-- first that waits, and what stands before what is left of a round.
use Prim.Native.Nat.{ℕ, zero, suc, ◌+◌, ◌-◌, ◌<◌, ◌≤◌}
use native.Mathlib.Nat.{add-zero, sub-zero, zero-add, suc-add}
use native.Mathlib.Omega.{arith}
use mathlib.Core.Path.{◌≡◌, refl, sym, ap, ◌∙◌}
use mathlib.Core.List.{List, [], ◌∷◌, ◌++◌, append_assoc, append-nil}
use borrow.Author.Tests.{eq-eqb, ne_eqb}
use lib.Dec.{eqb}
use lib.ListN.{length, get_or, set, replicate}
use lib.Seq.{get_or-set_same, get_or-set_other}
use Rattle.words.proofs.Lists.{cond_append}
use Rattle.types.specs.inside.rounds.Build.{waits, FirstWaits, Cleared}
use Rattle.types.specs.rounds.Rounds.{Out, stop, went, keep}
use Rattle.types.specs.rounds.Turns.{up_from}
use Rattle.types.specs.tables.Limits.{most_names, type_words, member_words}
use Rattle.types.specs.tables.Registry.{no_types, no_members, no_names}

-- tables of zeros are cleared
pub cleared : Cleared (replicate type_words 0) (replicate member_words 0) (replicate most_names 0)
unfolding no_types no_members no_names
cleared = record { types = refl; members = refl; names = refl }

-- ---- the next flag

module _ (f : List ℕ) (n i : ℕ) where
  -- where flag i is not set, type i waits, and then those after it
  pub waits_on : i < n → get_or f i 0 ≡ 0 → waits f i (n - i) ≡ i ∷ waits f (i + 1) (n - (i + 1))
  unfolding waits
  waits_on l h =
      let e : n - i ≡ suc (n - (i + 1)) = omega arith in
      rw e (simp (eq-eqb _ _ h))

  -- where flag i is set, only those after type i wait
  pub waits_off : i < n → (get_or f i 0 ≡ 0 → ⊥) → waits f i (n - i) ≡ waits f (i + 1) (n - (i + 1))
  unfolding waits
  waits_off l h =
      let e : n - i ≡ suc (n - (i + 1)) = omega arith in
      rw e (simp (ne_eqb _ _ h))

  -- past the last type none waits
  pub waits_end : n ≤ i → waits f i (n - i) ≡ []
  unfolding waits
  waits_end l =
      let e : n - i ≡ 0 = omega arith in
      rw e

-- ---- the last flag

waits_snoc : (f : List ℕ) (j n : ℕ) → waits f j (n + 1) ≡ waits f j n ++ waits f (j + n) 1
unfolding waits
waits_snoc f j zero = rw add-zero
waits_snoc f j (suc n) =
    let e : j + suc n ≡ j + 1 + n = omega arith in
    rw (suc-add, e, waits_snoc f (j + 1) n) (cond_append (eqb (get_or f j 0) 0) j _ _)

module _ (f : List ℕ) (i : ℕ) where
  -- where flag i is set, those that wait up to type i are those before it
  pub snoc_off : (get_or f i 0 ≡ 0 → ⊥) → waits f 0 (i + 1) ≡ waits f 0 i
  unfolding waits
  snoc_off o = waits_snoc f 0 i ∙ rw zero-add (simp (ne_eqb _ _ o, append-nil))

  -- where flag i is not set, those that wait up to type i are those before it, and then it
  pub snoc_on : get_or f i 0 ≡ 0 → waits f 0 (i + 1) ≡ waits f 0 i ++ i ∷ []
  unfolding waits
  snoc_on o = waits_snoc f 0 i ∙ rw zero-add (simp (eq-eqb _ _ o))

-- ---- a flag that is set

before_set : (f : List ℕ) (i v j n : ℕ) → j + n ≤ i → waits (set f i v) j n ≡ waits f j n
unfolding waits
before_set f i v j zero l = refl
before_set f i v j (suc n) l =
    rw (get_or-set_other f i j v 0 (omega arith), before_set f i v (j + 1) n (omega arith))

-- a flag that changes leaves those that wait after it as they were
pub after_set : (f : List ℕ) (i v j n : ℕ) → i < j → waits (set f i v) j n ≡ waits f j n
unfolding waits
after_set f i v j zero l = refl
after_set f i v j (suc n) l =
    rw (get_or-set_other f i j v 0 (omega arith), after_set f i v (j + 1) n (omega arith))

-- once flag i is set, those that wait up to type i are those that waited before it
pub set_snoc : (f : List ℕ) (i : ℕ) → i < length f → waits (set f i 1) 0 (i + 1) ≡ waits f 0 i
set_snoc f i l =
    let g : get_or (set f i 1) i 0 ≡ 1 = get_or-set_same f i 1 0 l in
    snoc_off (set f i 1) i (λ q. omega (arith, g)) ∙ before_set f i 1 0 i (omega arith)

-- ---- no flag is set: all wait

-- where no flag is set, all the types wait, in book order
pub waits_all : (f : List ℕ) → ((k : ℕ) → get_or f k 0 ≡ 0) → (i n : ℕ) → waits f i n ≡ up_from i n
unfolding waits up_from
waits_all f z i zero = refl
waits_all f z i (suc n) = rw (waits_all f z (i + 1) n) (simp (eq-eqb _ _ (z i)))

-- n numbers from i on are n
pub up_length : (i n : ℕ) → length (up_from i n) ≡ n
unfolding up_from
up_length i zero = refl
up_length i (suc n) = ap suc (up_length (i + 1) n)

-- ---- the first that waits

-- none before the i-th waits
pub record NoneWaits (f : List ℕ) (t i : ℕ) : Type 0 where
  pub done : i ≤ t
  pub same : waits f 0 t ≡ waits f i (t - i)

-- before the first type there is none that waits
pub passed_start : {f : List ℕ} {t : ℕ} → NoneWaits f t 0
passed_start {f} {t} = record { done = omega arith; same = rw sub-zero }

module _ {f : List ℕ} {t i : ℕ} (p : NoneWaits f t i) where
  -- a type whose flag is set is passed, and none before the next waits
  pub passed_on : i < t → (get_or f i 0 ≡ 0 → ⊥) → NoneWaits f t (i + 1)
  passed_on l o = record { done = omega arith; same = p.same ∙ waits_off f t i l o }

  -- where none before type i waits and its flag is not set, it is the first that waits
  pub passed_found : i < t → get_or f i 0 ≡ 0 → FirstWaits f t i
  passed_found l o =
      record { is = sym (ap (λ (w : List ℕ). get_or w 0 0) (p.same ∙ waits_on f t i l o)); small = omega arith }

  -- where all types are passed none waits, and 0 is answered
  pub passed_done : t ≤ i → FirstWaits f t 0
  passed_done l =
      record { is = sym (ap (λ (w : List ℕ). get_or w 0 0) (p.same ∙ waits_end f t i l)); small = omega arith }

-- ---- what stands before what is left of a round

module _ {S R : Type 0} where
  -- some types put before those that the rest of a round leaves; a refusal stays as it is
  abbrev pub keep_all : List ℕ → Out S R → Out S R
  keep_all xs (stop r) = stop r
  keep_all xs (went s ws) = went s (xs ++ ws)

  -- one type and then some others, put before what a round leaves, are all put at once, the one last
  pub keep_one : (xs : List ℕ) (i : ℕ) (o : Out S R) → keep_all xs (keep i o) ≡ keep_all (xs ++ i ∷ []) o
  keep_one xs i (stop r) = refl
  keep_one xs i (went s ws) = rw append_assoc

  -- no types put before what a round leaves change nothing
  pub keep_none : (o : Out S R) → keep_all [] o ≡ o
  keep_none (stop r) = refl
  keep_none (went s ws) = refl
