-- Laws of template ids (document 01, "Ids"): one id more is held, the search over the rows finds what the definition
-- over the list of ids does, and what is picked lies in the range and is held by no type.
use Rattle.std.specs.Prelude.{Result, Ok, Err}
use Prim.Native.Nat.{ℕ, zero, suc, ◌+◌, ◌-◌, ◌<◌, ◌≤◌}
use native.Mathlib.Decide.{dec_lt}
use native.Mathlib.Omega.{arith}
use mathlib.Core.Path.{◌≡◌, refl, sym, ◌∙◌}
use mathlib.Core.Bool.{Bool, true, false, cond, ◌&&◌, ◌||◌, and-eq-true_iff}
use mathlib.Core.List.{List}
use borrow.Author.Tests.{eq-eqb, ne_eqb, eqb-true, le-leb, lt-leb, leb-true}
use lib.Dec.{eqb, leb}
use Rattle.words.proofs.TestLaws.{or_right, clash}
use Rattle.types.specs.adding.Ids.{id_word, in_use, lowest_from, lowest_free, id_for}
use Rattle.types.specs.book.Contents.{list_from}
use Rattle.types.specs.inside.adding.Ids.{Held, Lowest}
use Rattle.types.specs.declared.adding.ids.IdFault.{IdFault}
use Rattle.types.specs.declared.adding.ids.IdFault.TheVariants.{OutsideRange, InUse, NoneFree}

-- where the ids from 0x100 to below r are held and a row holds r, those up to r are held
pub held_more : (t : List ℕ) (n r i : ℕ) → ((k : ℕ) → 0x100 ≤ k → k < r → Held t n k) → i < n → id_word t i ≡ r
    → (k : ℕ) → 0x100 ≤ k → k < r + 1 → Held t n k
held_more t n r i h l e k a b = go (dec_lt k r)
  where
    go : Dec (k < r) → Held t n k
    go (yes o) = h k a o
    go (no o) = let q : r ≡ k = omega (arith, o) in (i, l, e ∙ q)

-- the answer of `free_id` is the only one
pub lowest_one : (t : List ℕ) (n r r' : ℕ) → Lowest t n r → Lowest t n r' → r ≡ r'
lowest_one t n r r' a b = go (dec_lt r r') (dec_lt r' r)
  where
    go : Dec (r < r') → Dec (r' < r) → r ≡ r'
    go (yes o) q = absurd (a.free (omega (arith, b.high)) (b.taken r a.low o))
    go (no o) (yes q) = absurd (b.free (omega (arith, a.high)) (a.taken r' b.low q))
    go (no o) (no q) = omega (arith, o, q)

-- ---- an id among those of the rows that are left

module _ (ids : ℕ → ℕ) (id n i : ℕ) where
  -- an id that row i holds is in use among the rows from i on
  pub use_here : i < n → ids i ≡ id → in_use id (list_from ids i (n - i)) ≡ true
  unfolding in_use list_from
  use_here l e =
      let f : n - i ≡ suc (n - (i + 1)) = omega arith in
      rw f (simp (eq-eqb _ _ e))

  -- an id that row i does not hold is in use from i on just where it is among the rows after i
  pub use_later : i < n → (ids i ≡ id → ⊥)
      → in_use id (list_from ids i (n - i)) ≡ in_use id (list_from ids (i + 1) (n - (i + 1)))
  unfolding in_use list_from
  use_later l e =
      let f : n - i ≡ suc (n - (i + 1)) = omega arith in
      rw f (simp (ne_eqb _ _ e))

  -- where no row is left, no id is in use
  pub use_never : n ≤ i → in_use id (list_from ids i (n - i)) ≡ false
  unfolding in_use list_from
  use_never l =
      let f : n - i ≡ 0 = omega arith in
      rw f

-- ---- held by a row, and in use among the rows' ids

held_use : (t : List ℕ) (k j n i : ℕ) → j ≤ i → i < j + n → id_word t i ≡ k
    → in_use k (list_from (id_word t) j n) ≡ true
unfolding in_use list_from
held_use t k j zero i l h e = absurd (let z : ⊥ = omega arith in z)
held_use t k j (suc n) i l h e = go (held_use t k (j + 1) n i) (dec_lt j i)
  where
    go : (j + 1 ≤ i → i < j + 1 + n → id_word t i ≡ k → in_use k (list_from (id_word t) (j + 1) n) ≡ true) → Dec (j < i)
        → (eqb (id_word t j) k || in_use k (list_from (id_word t) (j + 1) n)) ≡ true
    go ih (yes o) =
        or_right (eqb (id_word t j) k) (in_use k (list_from (id_word t) (j + 1) n)) (ih (omega arith) (omega arith) e)
    go ih (no o) = let q : j ≡ i = omega (arith, o) in rw q (simp (eq-eqb _ _ e))

use_held : (t : List ℕ) (k j n : ℕ) → in_use k (list_from (id_word t) j n) ≡ true
    → (i : ℕ) × (i < j + n) × (id_word t i ≡ k)
unfolding in_use list_from
use_held t k j zero e = clash e refl
use_held t k j (suc n) e = go (use_held t k (j + 1) n) (eqb (id_word t j) k) refl e
  where
    go : (in_use k (list_from (id_word t) (j + 1) n) ≡ true → (i : ℕ) × (i < j + 1 + n) × (id_word t i ≡ k))
        → (b : Bool)
        → eqb (id_word t j) k ≡ b
        → (b || in_use k (list_from (id_word t) (j + 1) n)) ≡ true → (i : ℕ) × (i < j + suc n) × (id_word t i ≡ k)
    go ih true p q = (j, omega arith, eqb-true _ _ p)
    go ih false p q = let r = ih q in (r.0, omega (arith, r.1), r.2)

-- ---- the lowest free id

free_at : (ids : List ℕ) (k m r : ℕ) → k ≤ r → r < k + m → ((j : ℕ) → k ≤ j → j < r → in_use j ids ≡ true)
    → in_use r ids ≡ false → Ok r ≡ lowest_from ids k m
unfolding lowest_from
free_at ids k zero r l h t f = absurd (let z : ⊥ = omega arith in z)
free_at ids k (suc m) r l h t f =
    go (λ b. free_at ids (k + 1) m r (omega (arith, b)) (omega arith) (λ j a c. t j (omega arith) c) f) (dec_lt k r)
  where
    go : (k < r → Ok r ≡ lowest_from ids (k + 1) m) → Dec (k < r)
        → Ok r ≡ cond (in_use k ids) (lowest_from ids (k + 1) m) (Ok k)
    go ih (yes b) = rw (t k (omega arith) b) (ih b)
    go ih (no b) = let q : k ≡ r = omega (arith, b) in rw (q, f)

none_free : (ids : List ℕ) (k m : ℕ) → ((j : ℕ) → k ≤ j → j < k + m → in_use j ids ≡ true)
    → Err NoneFree ≡ lowest_from ids k m
unfolding lowest_from
none_free ids k zero t = refl
none_free ids k (suc m) t =
    rw (t k (omega arith) (omega arith)) (none_free ids (k + 1) m (λ j a b. t j (omega arith) (omega arith)))

-- what the search over the rows finds
module _ (t : List ℕ) (n r : ℕ) (w : Lowest t n r) where
  taken_below : (j : ℕ) → 0x100 ≤ j → j < r → in_use j (list_from (id_word t) 0 n) ≡ true
  taken_below j a b =
      let h = w.taken j a b in
      held_use t j 0 n h.0 (omega arith) (omega (arith, h.1)) h.2

  free_there : r < 0xF00 → in_use r (list_from (id_word t) 0 n) ≡ false
  free_there l = go (in_use r (list_from (id_word t) 0 n)) refl
    where
      go : (b : Bool) → in_use r (list_from (id_word t) 0 n) ≡ b → b ≡ false
      go true e = let h = use_held t r 0 n e in absurd (w.free l (h.0, omega (arith, h.1), h.2))
      go false e = refl

-- ---- the ways to pick an id

module _ (ids : List ℕ) (id : ℕ) where
  -- a given id below 0x100 is outside the range
  pub pick_low : id < 0x100 → Err OutsideRange ≡ id_for ids true id
  unfolding id_for
  pick_low l = simp (lt-leb _ _ l)

  -- a given id above 0xEFF is outside the range
  pub pick_high : 0x100 ≤ id → 0xEFF < id → Err OutsideRange ≡ id_for ids true id
  unfolding id_for
  pick_high l h = simp (le-leb _ _ l, lt-leb _ _ h)

  module _ (l : 0x100 ≤ id) (h : id ≤ 0xEFF) (b : Bool) (e : b ≡ in_use id ids) where
    -- a given id inside the range that a type holds is in use
    pub pick_used : b ≡ true → Err InUse ≡ id_for ids true id
    unfolding id_for
    pick_used q = simp (le-leb _ _ l, le-leb _ _ h, sym e ∙ q)

    -- a given id inside the range that no type holds is picked
    pub pick_given : b ≡ false → Ok id ≡ id_for ids true id
    unfolding id_for
    pick_given q = simp (le-leb _ _ l, le-leb _ _ h, sym e ∙ q)

module _ (t : List ℕ) (n id : ℕ) {r : ℕ} (w : Lowest t n r) where
  -- where no id is given, the lowest id that no row holds is picked
  pub pick_lowest : r < 0xF00 → Ok r ≡ id_for (list_from (id_word t) 0 n) false id
  unfolding id_for lowest_free
  pick_lowest l =
      free_at (list_from (id_word t) 0 n) 0x100 0xE00 r w.low (omega arith) (taken_below t n r w)
      (free_there t n r w l)

  -- where no id is given and the rows hold every id of the range, none is free
  pub pick_none : 0xF00 ≤ r → Err NoneFree ≡ id_for (list_from (id_word t) 0 n) false id
  unfolding id_for lowest_free
  pick_none l =
      none_free (list_from (id_word t) 0 n) 0x100 0xE00 (λ j a b. taken_below t n r w j a (omega arith))

-- ---- what is picked

-- an id that is picked lies in the range
abbrev pub InRange : Result ℕ IdFault → Type 0
InRange (Ok id) = (0x100 ≤ id) × (id ≤ 0xEFF)
InRange (Err f) = Unit {0}

-- and so does one of m ids from k on
abbrev AmongIds : ℕ → ℕ → Result ℕ IdFault → Type 0
AmongIds k m (Ok id) = (k ≤ id) × (id < k + m)
AmongIds k m (Err f) = Unit {0}

from_more : (k m : ℕ) (p : Result ℕ IdFault) → AmongIds (k + 1) m p → AmongIds k (suc m) p
from_more k m (Ok id) (a, b) = (omega arith, omega arith)
from_more k m (Err f) a = tt

from_range : (ids : List ℕ) (k m : ℕ) → AmongIds k m (lowest_from ids k m)
unfolding lowest_from
from_range ids k zero = tt
from_range ids k (suc m) = go (in_use k ids) (from_more k m (lowest_from ids (k + 1) m) (from_range ids (k + 1) m))
  where
    go : (b : Bool) → AmongIds k (suc m) (lowest_from ids (k + 1) m)
        → AmongIds k (suc m) (cond b (lowest_from ids (k + 1) m) (Ok k))
    go true rest = rest
    go false rest = (omega arith, omega arith)

-- an id that is picked lies in 0x100..0xEFF
pub picked_range : (ids : List ℕ) (given : Bool) (id : ℕ) → InRange (id_for ids given id)
unfolding id_for lowest_free
picked_range ids true id = go (leb 0x100 id && leb id 0xEFF) refl (in_use id ids)
  where
    go : (b : Bool) → (leb 0x100 id && leb id 0xEFF) ≡ b → (u : Bool)
        → InRange (cond b (cond u (Err InUse) (Ok id)) (Err OutsideRange))
    go true e true = tt
    go true e false =
        let both = (and-eq-true_iff (leb 0x100 id) (leb id 0xEFF)).0 e in
        (leb-true _ _ both.0, leb-true _ _ both.1)
    go false e u = tt
picked_range ids false id = go (lowest_from ids 0x100 0xE00) (from_range ids 0x100 0xE00)
  where
    go : (p : Result ℕ IdFault) → AmongIds 0x100 0xE00 p → InRange p
    go (Ok k) (a, b) = (a, omega arith)
    go (Err f) a = tt

-- and no type holds it
abbrev pub IdUnheld : List ℕ → Result ℕ IdFault → Type 0
IdUnheld ids (Ok id) = in_use id ids ≡ false
IdUnheld ids (Err f) = Unit {0}

from_unheld : (ids : List ℕ) (k m : ℕ) → IdUnheld ids (lowest_from ids k m)
unfolding lowest_from
from_unheld ids k zero = tt
from_unheld ids k (suc m) = go (in_use k ids) refl (from_unheld ids (k + 1) m)
  where
    go : (b : Bool) → in_use k ids ≡ b → IdUnheld ids (lowest_from ids (k + 1) m)
        → IdUnheld ids (cond b (lowest_from ids (k + 1) m) (Ok k))
    go true e rest = rest
    go false e rest = e

-- an id that is picked is held by no type
pub picked_unheld : (ids : List ℕ) (given : Bool) (id : ℕ) → IdUnheld ids (id_for ids given id)
unfolding id_for lowest_free
picked_unheld ids true id = go (leb 0x100 id && leb id 0xEFF) (in_use id ids) refl
  where
    go : (b u : Bool) → in_use id ids ≡ u → IdUnheld ids (cond b (cond u (Err InUse) (Ok id)) (Err OutsideRange))
    go true true e = tt
    go true false e = e
    go false u e = tt
picked_unheld ids false id = from_unheld ids 0x100 0xE00
