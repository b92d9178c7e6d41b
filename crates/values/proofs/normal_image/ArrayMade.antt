-- Elements made normal one after another are an array made normal (document 01, "Normal image").
use Prim.Native.Nat.{ℕ, zero, suc, ◌+◌, ◌*◌, ◌<◌, ◌≤◌}
use native.Mathlib.Nat.{suc-mul, zero-mul}
use native.Mathlib.Omega.{arith}
use mathlib.Core.Path.{◌≡◌, refl, sym, ap, ◌∙◌, fun_ext}
use mathlib.Core.Bool.{Bool, true, false, cond}
use mathlib.Core.List.{List}
use Rattle.words.specs.Bits.{Bits, inside}
use Rattle.words.proofs.BitLaws.{BitLies, among, beside, lies}
use Rattle.words.proofs.StampLaws.{yes_inside, not_inside}
use Rattle.words.proofs.TestLaws.{not-true}
use Rattle.values.specs.inside.normal_image.InPlace.{each_made, made}
use Rattle.values.specs.inside.normal_image.Placed.{TreePlaced}
use Rattle.values.specs.normal_image.Normal.{held, normal}
use Rattle.values.specs.reading.Tree.{Item, Tree, array, each, items, span}
use Rattle.values.proofs.normal_image.MadeLaws.{made_beside, made_inside, normal_around, normal_first}
use Rattle.values.proofs.normal_image.MadeLaws.{normal_local, normal_second}
use Rattle.values.proofs.normal_image.PlacedLaws.{each_between, tree_between}

module _ (t : Tree) (placed : TreePlaced t) where
  abbrev w : ℕ
  w = span t

  -- the bits of n elements made normal, as items
  abbrev elements_made : ℕ → ℕ → Bits → Bits
  elements_made n p x k = cond (inside p (n * w) k) (normal (each n (items t) w p) x k) (x k)

  -- the elements from a bit on hold no bit before it
  elements_after : (n p k : ℕ) → held (each n (items t) w p) k ≡ true → p ≤ k
  elements_after n p k h = (each_between n (items t) w p (λ q. tree_between t q placed) k h).0

  -- the rest of the elements sees nothing of the first made normal
  rest_same : (n p : ℕ) (x : Bits) (k : ℕ)
      → normal (each n (items t) w (p + w)) (made t p x) k ≡ normal (each n (items t) w (p + w)) x k
  rest_same n p x k =
      normal_local (each n (items t) w (p + w)) (made t p x) x
      (λ j h. made_beside t p x j (not_inside p w j (λ a b. far j (elements_after n (p + w) j h) b))) k
    where
      far : (j : ℕ) → p + w ≤ j → j < p + w → ⊥
      far j a b = omega arith

  -- one element, and n after it
  more : (n p : ℕ) (x : Bits) (k : ℕ) → elements_made n (p + w) (made t p x) k ≡ elements_made (suc n) p x k
  unfolding each
  more n p x k = first (lies p w k)
    where
      others : List Item
      others = each n (items t) w (p + w)

      all : suc n * w ≡ n * w + w
      all = suc-mul n w

      rest : (p ≤ k → k < p + w → ⊥) → inside p w k ≡ false → BitLies (p + w) (n * w) k
          → elements_made n (p + w) (made t p x) k ≡ elements_made (suc n) p x k
      rest f e (among u v d) =
          rw (d, yes_inside p (suc n * w) k (omega arith) (omega (arith, all)))
          (rest_same n p x k ∙ sym (normal_second (items t p) others x k
          (not-true (held (items t p) k) (λ h. f (omega arith) (tree_between t p placed k h).1))))
      rest f e (beside g d) =
          rw (d, not_inside p (suc n * w) k (λ a b. g (omega (arith, f a)) (omega (arith, all))))
          (made_beside t p x k e)

      first : BitLies p w k → elements_made n (p + w) (made t p x) k ≡ elements_made (suc n) p x k
      first (among u v e) =
          rw (
            not_inside (p + w) (n * w) k (λ a b. omega arith),
            yes_inside p (suc n * w) k u (omega (arith, all)),
          )
          (made_inside t p x k e ∙ sym (normal_first (items t p) others x k
          (not-true (held others k) (λ h. let z : p + w ≤ k = elements_after n (p + w) k h in omega arith))))
      first (beside f e) = rest f e (lies (p + w) (n * w) k)

  elements_made_lem : (n p : ℕ) (x : Bits) (k : ℕ) → each_made n (made t) w p x k ≡ elements_made n p x k
  unfolding each_made
  elements_made_lem zero p x k = rw (not_inside p (0 * w) k (λ a b. let z : 0 * w ≡ 0 = zero-mul w in omega arith)) refl
  elements_made_lem (suc n) p x k = elements_made_lem n (p + w) (made t p x) k ∙ more n p x k

-- elements made normal one after another are the array made normal
pub array_made : (n : ℕ) (t : Tree) (p : ℕ) (x : Bits) → TreePlaced t
    → each_made n (made t) (span t) p x ≡ made (array n t) p x
unfolding made items span
array_made n t p x placed =
    fun_ext (λ k. elements_made_lem t placed n p x k
    ∙ ap (λ (b : Bool). cond (inside p (n * span t) k) b (x k))
    (sym (normal_around 10 11 (each n (items t) (span t) p) x k)))
