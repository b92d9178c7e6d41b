-- The plain members of a structure swept in their order (document 01, "Normal image"): where each begins at or after
-- the end of the one before it, what is swept is normal as far as they go, and zero between them.
use Prim.Native.Nat.{ℕ, ◌+◌, ◌-◌, ◌≤◌, ◌<◌}
use native.Mathlib.Decide.{dec_lt}
use native.Mathlib.Omega.{arith}
use mathlib.Core.Path.{◌≡◌, refl, sym, ◌∙◌}
use mathlib.Core.Bool.{Bool, true, false, cond, true≢false}
use mathlib.Core.List.{List, [], ◌∷◌, ◌++◌}
use Rattle.words.specs.Bits.{Bits, inside, stamp}
use Rattle.words.proofs.BitLaws.{BitLies, among, beside, lies}
use Rattle.words.proofs.StampLaws.{yes_inside, not_inside}
use Rattle.words.proofs.TestLaws.{not-true}
use Rattle.types.specs.layout.Laid.{first_bit}
use Rattle.types.specs.declared.tables.member.Member.{Member}
use Rattle.values.specs.inside.normal_image.InPlace.{cleared, is_plain, onward, past_tree, swept}
use Rattle.values.specs.inside.normal_image.Placed.{If, TreePlaced, Stairs}
use Rattle.values.specs.inside.writing.Rows.{member_tree}
use Rattle.values.specs.normal_image.Normal.{held, normal}
use Rattle.values.specs.reading.Tree.{Item, Tree, items, span}
use Rattle.values.proofs.normal_image.ItemLaws.{normal_unheld}
use Rattle.values.proofs.normal_image.MadeLaws.{made_beside, made_inside, normal_first, normal_local}
use Rattle.values.proofs.normal_image.MadeLaws.{normal_second}
use Rattle.values.proofs.normal_image.PlacedLaws.{Or, left, right, held_or, tree_between}

-- their items, where the structure begins at bit p
module _ (trees : ℕ → Tree) (p : ℕ) where
  -- the items of the plain members, one after another
  unfoldable pub plain_items : List Member → List Item
  plain_items [] = []
  plain_items (m ∷ ms) =
      cond (is_plain m) (items (member_tree trees m) (p + first_bit m) ++ plain_items ms) (plain_items ms)

-- ---- bits cleared

cleared_among : (q n : ℕ) (x : Bits) (k : ℕ) → inside q n k ≡ true → cleared q n x k ≡ false
unfolding stamp
cleared_among q n x k e = rw e refl

cleared_beside : (q n : ℕ) (x : Bits) (k : ℕ) → inside q n k ≡ false → cleared q n x k ≡ x k
unfolding stamp
cleared_beside q n x k e = rw e refl

-- ---- where the members stand

module _ (trees : ℕ → Tree) (size : ℕ) where
  -- what is left begins at or before the size
  stairs_end : (ms : List Member) (c : ℕ) → Stairs trees size ms c → c ≤ size
  unfolding Stairs
  stairs_end [] c h = h
  stairs_end (m ∷ ms) c h = go (is_plain m) h (stairs_end ms (past_tree trees m)) (stairs_end ms c)
    where
      go : (b : Bool)
          → If b ((c ≤ first_bit m) × (TreePlaced (member_tree trees m) × Stairs trees size ms (past_tree trees m)))
          (Stairs trees size ms c)
          → (Stairs trees size ms (past_tree trees m) → past_tree trees m ≤ size) → (Stairs trees size ms c → c ≤ size)
          → c ≤ size
      go true (a, (t, r)) on skip = omega (arith, on r)
      go false r on skip = skip r

  -- no member has a bit before bit c
  stairs_held : (p : ℕ) (ms : List Member) (c : ℕ) → Stairs trees size ms c → (k : ℕ)
      → held (plain_items trees p ms) k ≡ true → p + c ≤ k
  unfolding Stairs plain_items held
  stairs_held p [] c h k e = absurd (true≢false (sym e))
  stairs_held p (m ∷ ms) c h k e = go (is_plain m) h (stairs_held p ms (past_tree trees m)) (stairs_held p ms c) e
    where
      rest : List Item
      rest = plain_items trees p ms

      go : (b : Bool)
          → If b ((c ≤ first_bit m) × (TreePlaced (member_tree trees m) × Stairs trees size ms (past_tree trees m)))
          (Stairs trees size ms c)
          → (Stairs trees size ms (past_tree trees m) → (k : ℕ) → held rest k ≡ true → p + past_tree trees m ≤ k)
          → (Stairs trees size ms c → (k : ℕ) → held rest k ≡ true → p + c ≤ k)
          → held (cond b (items (member_tree trees m) (p + first_bit m) ++ rest) rest) k ≡ true → p + c ≤ k
      go true (a, (t, r)) on skip e = either (held_or (items (member_tree trees m) (p + first_bit m)) rest k e)
        where
          either : Or (held (items (member_tree trees m) (p + first_bit m)) k) (held rest k) → p + c ≤ k
          either (left u) = omega (arith, tree_between (member_tree trees m) (p + first_bit m) t k u)
          either (right u) = omega (arith, on r k u)
      go false r on skip e = skip r k e

-- ---- one plain member, then those after it

module _ (trees : ℕ → Tree) (p size : ℕ) (m : Member) (ms : List Member) (c : ℕ)
    (after : c ≤ first_bit m) (placed : TreePlaced (member_tree trees m))
    (stairs : Stairs trees size ms (past_tree trees m))
    (x : Bits) where
  abbrev tree : Tree
  tree = member_tree trees m

  abbrev first : ℕ
  first = p + first_bit m

  abbrev past : ℕ
  past = past_tree trees m

  abbrev gap : Bits
  gap = cleared (p + c) (first_bit m - c) x

  abbrev new : Bits
  new = onward trees p m c x

  new_among : (k : ℕ) → inside first (span tree) k ≡ true → new k ≡ normal (items tree first) gap k
  unfolding onward
  new_among k e = made_inside tree first gap k e

  new_beside : (k : ℕ) → inside first (span tree) k ≡ false → new k ≡ gap k
  unfolding onward
  new_beside k e = made_beside tree first gap k e

  -- the member's items hold only its own bits
  mine : (k : ℕ) → (first ≤ k → k < first + span tree → ⊥) → held (items tree first) k ≡ false
  mine k f =
      not-true (held (items tree first) k)
      (λ e. f (tree_between tree first placed k e).0 (tree_between tree first placed k e).1)

  -- and those after it only bits after it
  theirs : (k : ℕ) → k < p + past → held (plain_items trees p ms) k ≡ false
  theirs k l =
      not-true (held (plain_items trees p ms) k)
      (λ e. let h : p + past ≤ k = stairs_held trees size p ms past stairs k e in omega arith)

  new_after : (k : ℕ) → p + past ≤ k → new k ≡ x k
  new_after k l =
      new_beside k (not_inside first (span tree) k (λ a b. omega arith))
      ∙ cleared_beside (p + c) (first_bit m - c) x k (not_inside (p + c) (first_bit m - c) k (λ a b. omega arith))

  abbrev all : List Item
  all = items tree first ++ plain_items trees p ms

  -- the bits after it
  step_after : (k : ℕ) → p + past ≤ k → normal (plain_items trees p ms) new k ≡ normal all x k
  step_after k l =
      normal_local (plain_items trees p ms) new x
      (λ j e. new_after j (stairs_held trees size p ms past stairs j e)) k
      ∙ sym (normal_second (items tree first) (plain_items trees p ms) x k (mine k (λ a b. omega arith)))

  -- its own
  step_mine : (k : ℕ) → first ≤ k → k < p + past → new k ≡ normal all x k
  step_mine k u v =
      new_among k (yes_inside first (span tree) k u (omega arith))
      ∙ normal_local (items tree first) gap x
      (λ j e. let h : (first ≤ j) × (j < first + span tree) = tree_between tree first placed j e in
      cleared_beside (p + c) (first_bit m - c) x j (not_inside (p + c) (first_bit m - c) j (λ a b. omega arith))) k
      ∙ sym (normal_first (items tree first) (plain_items trees p ms) x k (theirs k v))

  -- those between bit c and it
  step_gap : (k : ℕ) → p + c ≤ k → k < first → new k ≡ normal all x k
  step_gap k u v =
      new_beside k (not_inside first (span tree) k (λ a b. omega arith))
      ∙ cleared_among (p + c) (first_bit m - c) x k (yes_inside (p + c) (first_bit m - c) k u (omega arith))
      ∙ sym (normal_second (items tree first) (plain_items trees p ms) x k (mine k (λ a b. omega arith))
      ∙ normal_unheld (plain_items trees p ms) x k (theirs k (omega arith)))

  -- and those before bit c
  step_before : (k : ℕ) → k < p + c → new k ≡ x k
  step_before k l =
      new_beside k (not_inside first (span tree) k (λ a b. omega arith))
      ∙ cleared_beside (p + c) (first_bit m - c) x k (not_inside (p + c) (first_bit m - c) k (λ a b. omega arith))

  step : (k : ℕ) → cond (inside (p + past) (size - past) k) (normal (plain_items trees p ms) new k) (new k)
      ≡ cond (inside (p + c) (size - c) k) (normal all x k) (x k)
  step k = go (lies (p + past) (size - past) k) (dec_lt k (p + c)) (dec_lt k first)
    where
      top : past ≤ size
      top = stairs_end trees size ms past stairs

      whole : p + c ≤ k → k < p + size → inside (p + c) (size - c) k ≡ true
      whole u v = yes_inside (p + c) (size - c) k u (omega (arith, top))

      go : BitLies (p + past) (size - past) k → Dec (k < p + c) → Dec (k < first)
          → cond (inside (p + past) (size - past) k) (normal (plain_items trees p ms) new k) (new k)
          ≡ cond (inside (p + c) (size - c) k) (normal all x k) (x k)
      go (among u v e) d f = rw (e, whole (omega arith) (omega (arith, top))) (step_after k u)
      go (beside n e) (yes l) f =
          rw (e, not_inside (p + c) (size - c) k (λ a b. omega arith)) (step_before k l)
      go (beside n e) (no l) (yes g) =
          rw (e, whole (omega (arith, l)) (omega (arith, top))) (step_gap k (omega (arith, l)) g)
      go (beside n e) (no l) (no g) = last (dec_lt k (p + past))
        where
          last : Dec (k < p + past)
              → cond (inside (p + past) (size - past) k) (normal (plain_items trees p ms) new k) (new k)
              ≡ cond (inside (p + c) (size - c) k) (normal all x k) (x k)
          last (yes h) =
              rw (e, whole (omega (arith, l)) (omega (arith, top))) (step_mine k (omega (arith, g)) h)
          last (no h) =
              rw (e, not_inside (p + c) (size - c) k (λ a b. n (omega (arith, h)) (omega (arith, top))))
              (new_after k (omega (arith, h)))

-- all that is from bit c on, and up to the size, is made normal
pub swept_is : (trees : ℕ → Tree) (p size : ℕ) (ms : List Member) (c : ℕ) → Stairs trees size ms c → (x : Bits) (k : ℕ)
    → swept trees p size ms c x k ≡ cond (inside (p + c) (size - c) k) (normal (plain_items trees p ms) x k) (x k)
unfolding swept plain_items Stairs normal stamp
swept_is trees p size [] c h x k = refl
swept_is trees p size (m ∷ ms) c h x k =
    go (is_plain m) h (λ r. swept_is trees p size ms (past_tree trees m) r (onward trees p m c x) k)
    (λ r. swept_is trees p size ms c r x k)
  where
    rest : List Item
    rest = plain_items trees p ms

    past : ℕ
    past = past_tree trees m

    new : Bits
    new = onward trees p m c x

    go : (b : Bool)
        → If b ((c ≤ first_bit m) × (TreePlaced (member_tree trees m) × Stairs trees size ms past))
        (Stairs trees size ms c)
        → (Stairs trees size ms past → swept trees p size ms past new k
        ≡ cond (inside (p + past) (size - past) k) (normal rest new k) (new k))
        → (Stairs trees size ms c → swept trees p size ms c x k
        ≡ cond (inside (p + c) (size - c) k) (normal rest x k) (x k))
        → cond b (swept trees p size ms past new) (swept trees p size ms c x) k
        ≡ cond (inside (p + c) (size - c) k)
        (normal (cond b (items (member_tree trees m) (p + first_bit m) ++ rest) rest) x k) (x k)
    go true (a, (t, r)) on skip = on r ∙ step trees p size m ms c a t r x k
    go false r on skip = skip r
