-- Trees whose branches share no bit (document 01, "Layout", "Normal image"): no two leaves of such a tree share one, so
-- that its readings are the same exactly when its normal images are.
use Prim.Native.Nat.{ℕ, zero, suc, ◌+◌, ◌*◌, ◌<◌, ◌≤◌}
use native.Mathlib.Nat.{mul-one, suc-mul}
use native.Mathlib.Omega.{arith}
use mathlib.Core.Bool.{Bool, true, false, ◌||◌, or_assoc, or-false, or-true}
use mathlib.Core.List.{List, [], ◌∷◌, ◌++◌}
use mathlib.Core.Logic.{◌⊎◌, inl, inr}
use mathlib.Core.Path.{◌≡◌, refl, sym, ap, ◌∙◌}
use Rattle.words.specs.Bits.{inside}
use Rattle.words.proofs.BitLaws.{BitLies, among, beside, lies}
use Rattle.words.proofs.StampLaws.{yes_inside}
use Rattle.words.proofs.TestLaws.{not-true, clash}
use Rattle.values.specs.inside.normal_image.Placed.{BranchesPlaced, ClearOfBranches, TreePlaced}
use Rattle.values.specs.normal_image.Normal.{held}
use Rattle.values.specs.reading.Leaf.{Leaf, flag, width}
use Rattle.values.specs.reading.Tree.{Tree, leaf, bits, array, struct, Branches, none, branch, room, all_bits}
use Rattle.values.specs.reading.Tree.{span, Item, say, at, each, between, one_flag, items, branch_items}
use Rattle.values.specs.stream.Stream.{mark}
use Rattle.values.proofs.normal_image.ItemLaws.{HeldApart, AllGood}
use Rattle.values.proofs.reading.TreeLaws.{width_room}

-- ---- held bits of lists

-- every held bit lies from lo on, below hi
abbrev pub Between : ℕ → ℕ → List Item → Type 0
Between lo hi is = (k : ℕ) → held is k ≡ true → (lo ≤ k) × (k < hi)

-- two lists of items together hold a bit where the first or the second holds it
pub held_append : (a b : List Item) (k : ℕ) → held (a ++ b) k ≡ (held a k || held b k)
unfolding held
held_append [] b k = refl
held_append (say e ∷ a) b k = held_append a b k
held_append (at p l ∷ a) b k =
    ap (inside p (width l) k ||◌) (held_append a b k) ∙ sym (or_assoc (inside p (width l) k) (held a k) (held b k))

-- one of two tests is true
pub data Or (a b : Bool) : Type 0 where
  left : a ≡ true → Or a b
  right : b ≡ true → Or a b

either_true : (a b : Bool) → (a || b) ≡ true → Or a b
either_true true b e = left refl
either_true false b e = right e

-- a bit that two lists together hold is held by the first or by the second
pub held_or : (a b : List Item) (k : ℕ) → held (a ++ b) k ≡ true → Or (held a k) (held b k)
held_or a b k e = either_true (held a k) (held b k) (sym (held_append a b k) ∙ e)

between_append : (lo hi : ℕ) (a b : List Item) → Between lo hi a → Between lo hi b → Between lo hi (a ++ b)
between_append lo hi a b f g k e = go (held_or a b k e)
  where
    go : Or (held a k) (held b k) → (lo ≤ k) × (k < hi)
    go (left t) = f k t
    go (right t) = g k t

between_wide : (lo hi low high : ℕ) (a : List Item) → low ≤ lo → hi ≤ high → Between lo hi a → Between low high a
between_wide lo hi low high a p q f k e = let w : (lo ≤ k) × (k < hi) = f k e in (omega arith, omega arith)

apart_append : (a b : List Item) → HeldApart a → HeldApart b → ((k : ℕ) → held a k ≡ true → held b k ≡ false)
    → HeldApart (a ++ b)
unfolding held
apart_append [] b f g h = g
apart_append (say e ∷ a) b f g h = apart_append a b f g h
apart_append (at p l ∷ a) b (f, more) g h = (
  (λ k u v. held_append a b k ∙ rw (f k u v, h k (rw (yes_inside p (width l) k u v) refl)) refl),
  apart_append a b more g (λ k t. h k (rw t (or-true (inside p (width l) k)))),
)

good_append : (a b : List Item) → AllGood a → AllGood b → AllGood (a ++ b)
good_append [] b f g = g
good_append (say e ∷ a) b f g = good_append a b f g
good_append (at p l ∷ a) b (f, more) g = (f, good_append a b more g)

-- ---- one leaf, and the same items many times

at_between : (p : ℕ) (l : Leaf) → Between p (p + width l) (at p l ∷ [])
unfolding held
at_between p l k e = go (lies p (width l) k)
  where
    go : BitLies p (width l) k → (p ≤ k) × (k < p + width l)
    go (among a b t) = (a, b)
    go (beside f t) = clash e (or-false (inside p (width l) k) ∙ t)

at_apart : (p : ℕ) (l : Leaf) → HeldApart (at p l ∷ [])
unfolding held
at_apart p l = ((λ k u v. refl), tt)

-- the bits of n elements, each inside its own width, lie inside n widths
pub each_between : (n : ℕ) (f : ℕ → List Item) (w p : ℕ) → ((q : ℕ) → Between q (q + w) (f q))
    → Between p (p + n * w) (each n f w p)
unfolding each held
each_between zero f w p h = λ k e. clash e refl
each_between (suc n) f w p h =
    let s : suc n * w ≡ n * w + w = suc-mul n w in
    between_append p (p + suc n * w) (f p) (each n f w (p + w))
    (between_wide p (p + w) p (p + suc n * w) (f p) (omega arith) (omega arith) (h p))
    (between_wide (p + w) (p + w + n * w) p (p + suc n * w) (each n f w (p + w)) (omega arith) (omega arith)
    (each_between n f w (p + w) h))

each_apart : (n : ℕ) (f : ℕ → List Item) (w p : ℕ) → ((q : ℕ) → Between q (q + w) (f q)) → ((q : ℕ) → HeldApart (f q))
    → HeldApart (each n f w p)
unfolding each
each_apart zero f w p h a = tt
each_apart (suc n) f w p h a =
    apart_append (f p) (each n f w (p + w)) (a p) (each_apart n f w (p + w) h a)
    (λ k t. not-true (held (each n f w (p + w)) k) (λ u. meet k (h p k t) (each_between n f w (p + w) h k u)))
  where
    meet : (k : ℕ) → (p ≤ k) × (k < p + w) → (p + w ≤ k) × (k < p + w + n * w) → ⊥
    meet k u v = omega arith

each_good : (n : ℕ) (f : ℕ → List Item) (w p : ℕ) → ((q : ℕ) → AllGood (f q)) → AllGood (each n f w p)
unfolding each
each_good zero f w p g = tt
each_good (suc n) f w p g = good_append (f p) (each n f w (p + w)) (g p) (each_good n f w (p + w) g)

-- ---- brackets

around_between : (lo hi start stop : ℕ) (is : List Item) → Between lo hi is → Between lo hi (between start stop is)
unfolding held
around_between lo hi start stop is h = between_append lo hi is (say (mark stop) ∷ []) h (λ k t. clash t refl)

around_apart : (stop : ℕ) (is : List Item) → HeldApart is → HeldApart (is ++ say (mark stop) ∷ [])
unfolding held
around_apart stop is a = apart_append is (say (mark stop) ∷ []) a tt (λ k t. refl)

around_good : (stop : ℕ) (is : List Item) → AllGood is → AllGood (is ++ say (mark stop) ∷ [])
around_good stop is a = good_append is (say (mark stop) ∷ []) a tt

-- ---- trees

mutual
  unfolding items TreePlaced span held

  -- the bits that a tree holds lie among those that it takes
  pub tree_between : (t : Tree) (p : ℕ) → TreePlaced t → Between p (p + span t) (items t p)
  tree_between (leaf l) p a =
      between_wide p (p + width l) p (p + room l) (at p l ∷ []) (omega arith) (omega (arith, width_room l))
      (at_between p l)
  tree_between (bits w n) p a =
      around_between p (p + all_bits w n) 10 11 (each (all_bits w n) one_flag 1 p)
      (rw (mul-one (all_bits w n)) at (each_between (all_bits w n) one_flag 1 p (λ q. at_between q flag)))
  tree_between (array n t) p a =
      around_between p (p + n * span t) 10 11 (each n (items t) (span t) p)
      (each_between n (items t) (span t) p (λ q. tree_between t q a))
  tree_between (struct size bs) p a =
      around_between p (p + size) 8 9 (branch_items bs p) (branches_between bs size p a.0)

  branches_between : (bs : Branches) (size p : ℕ) → BranchesPlaced size bs → Between p (p + size) (branch_items bs p)
  branches_between none size p a = λ k e. clash e refl
  branches_between (branch j o t bs) size p a =
      between_append p (p + size) (items t (p + o)) (branch_items bs p)
      (between_wide (p + o) (p + o + span t) p (p + size) (items t (p + o)) (omega arith) (omega (arith, a.1.0))
      (tree_between t (p + o) a.0))
      (branches_between bs size p a.1.1.1)

-- a bit of a branch is none of those that it is clear of
pub branches_clear : (bs : Branches) (size o n p : ℕ) → BranchesPlaced size bs → ClearOfBranches o n bs → (k : ℕ)
    → held (branch_items bs p) k ≡ true → p + o ≤ k → k < p + o + n → ⊥
unfolding branch_items TreePlaced held
branches_clear none size o n p a c k t u v = clash t refl
branches_clear (branch j q r bs) size o n p a c k t u v =
    go (λ e. branches_clear bs size o n p a.1.1.1 c.1 k e u v)
    (held_or (items r (p + q)) (branch_items bs p) k t)
  where
    meet : (o + n ≤ q) ⊎ (q + span r ≤ o) → (p + q ≤ k) × (k < p + q + span r) → ⊥
    meet (inl d) w = omega arith
    meet (inr d) w = omega arith

    go : (held (branch_items bs p) k ≡ true → ⊥) → Or (held (items r (p + q)) k) (held (branch_items bs p) k) → ⊥
    go ih (left e) = meet c.0 (tree_between r (p + q) a.0 k e)
    go ih (right e) = ih e

mutual
  unfolding items TreePlaced span

  -- no two leaves of a tree share a bit, where its branches share none
  pub tree_apart : (t : Tree) (p : ℕ) → TreePlaced t → HeldApart (items t p)
  tree_apart (leaf l) p a = at_apart p l
  tree_apart (bits w n) p a =
      around_apart 11 (each (all_bits w n) one_flag 1 p)
      (each_apart (all_bits w n) one_flag 1 p (λ q. at_between q flag) (λ q. at_apart q flag))
  tree_apart (array n t) p a =
      around_apart 11 (each n (items t) (span t) p)
      (each_apart n (items t) (span t) p (λ q. tree_between t q a) (λ q. tree_apart t q a))
  tree_apart (struct size bs) p a = around_apart 9 (branch_items bs p) (branches_apart bs size p a.0)

  branches_apart : (bs : Branches) (size p : ℕ) → BranchesPlaced size bs → HeldApart (branch_items bs p)
  branches_apart none size p a = tt
  branches_apart (branch j o t bs) size p a =
      apart_append (items t (p + o)) (branch_items bs p) (tree_apart t (p + o) a.0)
      (branches_apart bs size p a.1.1.1)
      (λ k h. not-true (held (branch_items bs p) k)
      (λ u. branches_clear bs size o (span t) p a.1.1.1 a.1.1.0 k u
      (tree_between t (p + o) a.0 k h).0 (tree_between t (p + o) a.0 k h).1))

mutual
  unfolding items TreePlaced

  -- the leaves of such a tree are those that types have
  pub tree_good : (t : Tree) (p : ℕ) → TreePlaced t → AllGood (items t p)
  tree_good (leaf l) p a = (a, tt)
  tree_good (bits w n) p a =
      around_good 11 (each (all_bits w n) one_flag 1 p) (each_good (all_bits w n) one_flag 1 p (λ q. (tt, tt)))
  tree_good (array n t) p a =
      around_good 11 (each n (items t) (span t) p) (each_good n (items t) (span t) p (λ q. tree_good t q a))
  tree_good (struct size bs) p a = around_good 9 (branch_items bs p) (branches_good bs size p a.0)

  branches_good : (bs : Branches) (size p : ℕ) → BranchesPlaced size bs → AllGood (branch_items bs p)
  branches_good none size p a = tt
  branches_good (branch j o t bs) size p a =
      good_append (items t (p + o)) (branch_items bs p) (tree_good t (p + o) a.0)
      (branches_good bs size p a.1.1.1)
