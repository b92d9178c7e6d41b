-- Elements of an array of structures set one after another (document 01, "Writing"), where the check accepted: each has
-- its bytes after those of the one before it, and there is nothing but the close after the last place.
use Prim.Native.Nat.{ℕ, zero, suc, ◌+◌, ◌*◌, ◌<◌, ◌≤◌}
use native.Mathlib.Nat.{mul-add, mul-le-mul_left, mul-one, mul-suc}
use native.Mathlib.Omega.{arith}
use mathlib.Core.Path.{◌≡◌, refl, ap, ◌∙◌, subst}
use mathlib.Core.Bool.{true}
use mathlib.Core.List.{List}
use lib.ListN.{length}
use Rattle.words.specs.Bits.{Bits, flat}
use Rattle.types.specs.tables.Sizes.{sizes_in}
use Rattle.values.specs.inside.reading.Walkable.{Walkable}
use Rattle.values.specs.inside.writing.Passes.{Applied, accepted, first_kind, left_at}
use Rattle.values.specs.inside.writing.Rows.{AllHere, Here, tree_in}
use Rattle.values.specs.reading.Tree.{Tree, array, span}
use Rattle.values.specs.stream.Form.{stream_ok}
use Rattle.values.specs.stream.Stream.{Token}
use Rattle.values.specs.writing.Writing.{Outcome, opened, elements, write}
use Rattle.values.proofs.reading.SpanLaws.{tree_span}
use Rattle.values.proofs.stream.LeftLaws.{EntryThere}
use Rattle.values.proofs.writing.ApplyLaws.{Setting, accepted_as, accepted_first, applied_as, setting_from}
use Rattle.values.proofs.writing.ApplyLaws.{setting_on, setting_then, opened_there, opened_kept, opened_set}
use Rattle.values.proofs.writing.ApplyLaws.{elements_there, elements_closed, elements_end}
use Rattle.values.proofs.writing.OutcomeLaws.{in_array, array_opens}
use Rattle.values.proofs.writing.StepLaws.{elements_go}

-- ---- an array of structures

-- the elements of an array are to be set from an entry on
pub record ElementsAsked (types members : List ℕ) (i count : ℕ) (s : List ℕ) (k : ℕ) (image : List ℕ) (base : ℕ)
    : Type 0 where
  pub walk : Walkable types members
  pub here : AllHere types i count base image
  pub form : stream_ok s ≡ true
  pub set : accepted (write (array count (tree_in types members i)) (8 * base) (left_at s k) (flat image)) ≡ true

-- what the contract asks of an array is what its elements are asked
pub elements_asked : {types members : List ℕ} {i count : ℕ} {s : List ℕ} {k : ℕ} {image : List ℕ} {base : ℕ}
    → Walkable types members × (AllHere types i count base image × (stream_ok s ≡ true))
    → accepted (write (array count (tree_in types members i)) (8 * base) (left_at s k) (flat image)) ≡ true
    → ElementsAsked types members i count s k image base
elements_asked p set = record { walk = p.0; here = p.1.0; form = p.1.1; set = set }

module _ {types members : List ℕ} {i count : ℕ} {s : List ℕ} {k : ℕ} {image : List ℕ} {base : ℕ}
    (w : ElementsAsked types members i count s k image base) where
  abbrev inner : List Token → Bits → Outcome
  inner = in_array count (tree_in types members i) (8 * base)

  opens : write (array count (tree_in types members i)) (8 * base) (left_at s k) (flat image)
      ≡ opened 10 inner (left_at s k) (flat image)
  opens = array_opens count (tree_in types members i) (8 * base) (left_at s k) (flat image)

  -- an accepted array has its entry
  pub array_there : EntryThere s k
  array_there = opened_there w.form 10 inner (flat image) (accepted_as opens w.set)

  -- null for the whole array keeps what stands
  pub array_null : first_kind (left_at s k) ≡ 0
      → Applied s k (k + 1) image image (write (array count (tree_in types members i)) (8 * base) (left_at s k))
  array_null e = applied_as opens (opened_kept w.form 10 inner array_there e)

  array_set : (first_kind (left_at s k) ≡ 0 → ⊥)
      → Setting s k image (write (array count (tree_in types members i)) (8 * base) (left_at s k)) (k + 1) image
      (inner (left_at s (k + 1)))
  array_set n =
      setting_on (setting_from (omega arith) refl opens w.set)
      (opened_set w.form 10 inner array_there n (accepted_as opens w.set))

-- the elements before element e are set, up to entry p; so many are left
pub record ElementsSet (types members : List ℕ) (i count : ℕ) (s : List ℕ) (k : ℕ) (image : List ℕ) (base size p e : ℕ)
    (now : List ℕ) : Type 0 where
  pub asked : ElementsAsked types members i count s k image base
  pub long : size ≡ sizes_in types i
  pub left : ℕ
  pub all : e + left ≡ count
  pub setting : Setting s k image (write (array count (tree_in types members i)) (8 * base) (left_at s k)) p now
      (in_array left (tree_in types members i) (8 * (base + size * e)) (left_at s p))

-- the next entry is an element's
pub record ElementNext (types members : List ℕ) (i count : ℕ) (s : List ℕ) (k : ℕ) (image : List ℕ) (base size p e : ℕ)
    (now : List ℕ) : Type 0 where
  pub here : Here types i (base + size * e) now
  pub set : accepted (write (tree_in types members i) (8 * (base + size * e)) (left_at s p) (flat now)) ≡ true
  pub on : (r : ℕ) (new : List ℕ)
      → Applied s p r now new (write (tree_in types members i) (8 * (base + size * e)) (left_at s p))
      → ElementsSet types members i count s k image base size r (e + 1) new

-- after the opening no element is set yet
pub elements_start : {types members : List ℕ} {i count : ℕ} {s : List ℕ} {k : ℕ} {image : List ℕ} {base size : ℕ}
    → ElementsAsked types members i count s k image base → (first_kind (left_at s k) ≡ 0 → ⊥) → size ≡ sizes_in types i
    → ElementsSet types members i count s k image base size (k + 1) 0 image
elements_start {types} {members} {i} {count} {s} {k} {image} {base} {size} w n z =
    let e : 8 * base ≡ 8 * (base + size * 0) = omega arith in
    record {
      asked = w;
      long = z;
      left = count;
      all = omega arith;
      setting = subst
          (λ (q : ℕ). Setting s k image (write (array count (tree_in types members i)) (8 * base) (left_at s k)) (k + 1)
          image (in_array count (tree_in types members i) q (left_at s (k + 1)))) e (array_set w n);
    }

module _ {types members : List ℕ} {i count : ℕ} {s : List ℕ} {k : ℕ} {image : List ℕ} {base size p e : ℕ}
    {now : List ℕ} (v : ElementsSet types members i count s k image base size p e now) where
  abbrev tree : Tree
  tree = tree_in types members i

  abbrev place : ℕ
  place = 8 * (base + size * e)

  -- the next entry of the accepted elements is there
  pub element_there : EntryThere s p
  element_there =
      elements_there v.asked.form v.left (write tree) (span tree) place (flat now) v.setting.taken

  -- at the close the array is set
  pub elements_close : first_kind (left_at s p) ≡ 11
      → Applied s k (p + 1) image now (write (array count tree) (8 * base) (left_at s k))
  elements_close h =
      v.setting.onward (p + 1) now
      (elements_closed v.asked.form (write tree) (span tree) element_there v.left place h)

  -- past the last place the whole array is set
  pub elements_done : count ≤ e → Applied s k (p + 1) image now (write (array count tree) (8 * base) (left_at s k))
  elements_done l =
      let none : v.left ≡ 0 = omega (arith, v.all) in
      let h : accepted (elements 0 (write tree) (span tree) place (left_at s p) (flat now)) ≡ true
      = rw none at v.setting.taken in
      elements_close (elements_end v.asked.form (write tree) (span tree) element_there place now h)

  module _ (l : e < count) where
    -- its bytes lie in the image
    pub element_inside : base + size * e + size ≤ length image
    element_inside =
        let h : size * e + size ≤ size * count = subst (◌≤ size * count) (mul-suc size e) (mul-le-mul_left size l) in
        let q : size * count ≡ sizes_in types i * count = ap (λ (z : ℕ). z * count) v.long in
        omega (arith, v.asked.here.inside)

    next_place : place + span tree ≡ 8 * (base + size * (e + 1))
    next_place =
        let a : size * (e + 1) ≡ size * e + size = mul-add size e 1 ∙ ap (size * e +◌) (mul-one size) in
        omega (arith, tree_span types members v.asked.walk i v.asked.here.low, v.long)

    -- where a place is left, an entry that is no close is an element's
    pub element : (first_kind (left_at s p) ≡ 11 → ⊥) → ElementNext types members i count s k image base size p e now
    element n = go v.left v.all v.setting
      where
        go : (left : ℕ) → e + left ≡ count
            → Setting s k image (write (array count tree) (8 * base) (left_at s k)) p now
            (in_array left tree place (left_at s p))
            → ElementNext types members i count s k image base size p e now
        go zero a t = absurd (let x : ⊥ = omega arith in x)
        go (suc left) a t =
            let step = elements_go v.asked.form (write tree) (span tree) left place element_there n (flat now) in
            record {
              here = record {
                low = v.asked.here.low;
                inside = omega (arith, element_inside, v.setting.long, v.long);
              };
              set =
                  accepted_first (write tree place (left_at s p) (flat now))
                  (elements left (write tree) (span tree) (place + span tree)) (accepted_as step t.taken);
              on = λ r new d.
                  record {
                    asked = v.asked;
                    long = v.long;
                    left = left;
                    all = omega arith;
                    setting =
                        subst
                        (λ (q : ℕ). Setting s k image (write (array count tree) (8 * base) (left_at s k)) r new
                        (in_array left tree q (left_at s r))) next_place
                        (setting_on t
                        (setting_then (elements left (write tree) (span tree) (place + span tree)) step t.taken d));
                  };
            }
