-- Elements of an array of structures made normal one after another (document 01, "Normal image"): each has its bytes
-- after those of the one before it, and what is left to do is what was to be done at first.
use Prim.Native.Nat.{ℕ, zero, suc, ◌+◌, ◌*◌, ◌<◌, ◌≤◌}
use native.Mathlib.Nat.{mul-add, mul-one, mul-zero}
use native.Mathlib.Omega.{arith}
use mathlib.Core.Path.{◌≡◌, refl, sym, ap, ◌∙◌, fun_ext}
use mathlib.Core.List.{List}
use lib.ListN.{length}
use Rattle.words.specs.Bits.{Bits, flat}
use Rattle.words.proofs.StampLaws.{not_inside}
use Rattle.types.specs.tables.Limits.{most_types}
use Rattle.types.specs.tables.Sizes.{sizes_in}
use Rattle.values.specs.inside.normal_image.InPlace.{each_made, made}
use Rattle.values.specs.inside.normal_image.Placed.{Sweepable}
use Rattle.values.specs.inside.writing.Rows.{AllHere, tree_in}
use Rattle.values.specs.reading.Tree.{Tree, array, span}
use Rattle.values.proofs.normal_image.ArrayMade.{array_made}
use Rattle.values.proofs.normal_image.MadeLaws.{made_beside}
use Rattle.values.proofs.normal_image.SweepableLaws.{sweepable_walkable}
use Rattle.values.proofs.reading.SpanLaws.{tree_span}

-- n elements of a tree from a bit on
abbrev elements_made : ℕ → Tree → ℕ → Bits → Bits
elements_made n tree p x = each_made n (made tree) (span tree) p x

-- elements of no bytes have no bit
pub elements_none : {types members : List ℕ} {i size : ℕ} (count : ℕ) → Sweepable types members → i < most_types
    → size ≡ sizes_in types i → size ≡ 0 → (p : ℕ) {x : Bits} → x ≡ made (array count (tree_in types members i)) p x
unfolding span
elements_none {types} {members} {i} count s low z n p {x} =
    fun_ext (λ k. sym (made_beside (array count tree) p x k
    (not_inside p (count * span tree) k (λ a b. omega (arith, all)))))
  where
    tree : Tree
    tree = tree_in types members i

    one : span tree ≡ 0
    one = omega (arith, tree_span types members (sweepable_walkable s) i low, z, n)

    all : count * span tree ≡ 0
    all = ap (count *◌) one ∙ mul-zero count

-- the elements before element e are made normal, and so many are left
pub record ElementsNormal (types members : List ℕ) (i count : ℕ) (image : List ℕ) (base size e : ℕ) (now : List ℕ)
    : Type 0 where
  pub long : size ≡ sizes_in types i
  pub left : ℕ
  pub all : e + left ≡ count
  pub whole : length now ≡ length image
  pub bits : elements_made left (tree_in types members i) (8 * (base + size * e)) (flat now)
      ≡ elements_made count (tree_in types members i) (8 * base) (flat image)

-- before the first element all are still to be made normal
pub elements_start : {types members : List ℕ} {i count : ℕ} {image : List ℕ} {base size : ℕ} → size ≡ sizes_in types i
    → ElementsNormal types members i count image base size 0 image
elements_start {types} {members} {i} {count} {image} {base} {size} z =
    let e : 8 * (base + size * 0) ≡ 8 * base = omega arith in
    record {
      long = z;
      left = count;
      all = omega arith;
      whole = refl;
      bits = ap (λ (p : ℕ). elements_made count (tree_in types members i) p (flat image)) e;
    }

module _ {types members : List ℕ} {i count : ℕ} {image : List ℕ} {base size e : ℕ} {now : List ℕ}
    (sweepable : Sweepable types members) (here : AllHere types i count base image)
    (v : ElementsNormal types members i count image base size e now) where
  abbrev tree : Tree
  tree = tree_in types members i

  abbrev place : ℕ
  place = 8 * (base + size * e)

  -- past the last place the whole array is made normal
  pub elements_done : count ≤ e → flat now ≡ made (array count tree) (8 * base) (flat image)
  unfolding each_made
  elements_done l = go v.left v.all v.bits
    where
      go : (left : ℕ) → e + left ≡ count
          → elements_made left tree place (flat now) ≡ elements_made count tree (8 * base) (flat image)
          → flat now ≡ made (array count tree) (8 * base) (flat image)
      go zero a b = b ∙ array_made count tree (8 * base) (flat image) (sweepable.disjoint.placed i here.low)
      go (suc left) a b = absurd (let x : ⊥ = omega arith in x)

  module _ (l : e < count) where
    next_place : place + span tree ≡ 8 * (base + size * (e + 1))
    next_place =
        let a : size * (e + 1) ≡ size * e + size = mul-add size e 1 ∙ ap (size * e +◌) (mul-one size) in
        omega (arith, tree_span types members (sweepable_walkable sweepable) i here.low, v.long)

    -- and the element made normal is one less to do
    pub element_made : (new : List ℕ) → flat new ≡ made tree place (flat now) → length new ≡ length now
        → ElementsNormal types members i count image base size (e + 1) new
    unfolding each_made
    element_made new h same = go v.left v.all v.bits
      where
        go : (left : ℕ) → e + left ≡ count
            → elements_made left tree place (flat now) ≡ elements_made count tree (8 * base) (flat image)
            → ElementsNormal types members i count image base size (e + 1) new
        go zero a b = absurd (let x : ⊥ = omega arith in x)
        go (suc left) a b =
            record {
              long = v.long;
              left = left;
              all = omega arith;
              whole = same ∙ v.whole;
              bits = rw (h, ← next_place) b;
            }
