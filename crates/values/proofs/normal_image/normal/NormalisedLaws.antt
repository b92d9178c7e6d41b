-- The whole of making an image normal (document 01, "Normal image", "Refusal numbers"): 15 and 14 leave the image as it
-- was; else the bits of its value's tree made normal are all its bits, and it is the normal image.
use Rattle.std.specs.Prelude.{Ok, Err}
use Prim.Native.Nat.{ℕ, ◌*◌, ◌<◌}
use native.Mathlib.Omega.{arith}
use borrow.Author.Tests.{eq-eqb, ne_eqb}
use mathlib.Core.Path.{◌≡◌, refl, sym, ap, ◌∙◌}
use mathlib.Core.Bool.{true, false}
use mathlib.Core.List.{List}
use lib.ListN.{length}
use Rattle.words.specs.Bits.{Bits, flat, inside}
use Rattle.words.specs.Words.{Bytes}
use Rattle.words.proofs.StampLaws.{yes_inside}
use Rattle.types.specs.refusals.Said.{done, why}
use Rattle.types.specs.tables.There.{is_there}
use Rattle.types.specs.declared.atomics.atomic.Atomic.{Atomic}
use Rattle.types.specs.declared.refusals.refusal.Refusal.{Refusal}
use Rattle.types.specs.declared.refusals.refusal.Refusal.TheVariants.{ImageLength, NoSuchType}
use Rattle.types.specs.declared.tables.member.Ty.{Ty}
use Rattle.types.specs.declared.tables.member.Ty.TheVariants as ty
use Rattle.values.specs.inside.normal_image.InPlace.{made}
use Rattle.values.specs.inside.normal_image.Placed.{Sweepable}
use Rattle.values.specs.inside.reading.Images.{said_of_image}
use Rattle.values.specs.inside.reading.Walkable.{ValueImage}
use Rattle.values.specs.inside.writing.Rows.{tree_in}
use Rattle.values.specs.normal_image.Normal.{normal, normal_image}
use Rattle.values.specs.normal_image.Normalised.{MadeNormal, normal_result, value_normal}
use Rattle.values.specs.reading.Leaf.{chars}
use Rattle.values.specs.reading.Read.{image_fits}
use Rattle.values.specs.reading.Tree.{Tree, array, items, span}
use Rattle.values.specs.reading.Trees.{atomics_tree, known_in, structs_tree, tree_of_value}
use Rattle.values.proofs.normal_image.CharLaws.{chars_ext}
use Rattle.values.proofs.normal_image.MadeLaws.{made_inside}
use Rattle.values.proofs.normal_image.SweepableLaws.{sweepable_walkable}
use Rattle.values.proofs.reading.ImageLaws.{fit_long, fit_there, unfit}
use Rattle.values.proofs.reading.SpanLaws.{tree_value_span}
use Rattle.values.proofs.writing.WrittenLaws.{bytes_bits}

-- ---- a value's image

module _ {types members : List ℕ} (s : Sweepable types members) {t : Ty} {n : ℕ} {image : List ℕ}
    (v : ValueImage types t n image) where
  abbrev tree : Tree
  tree = tree_of_value (known_in types members) t n

  -- each of its bits is one of the tree's
  all_inside : (k : ℕ) → k < 8 * length image → inside 0 (span tree) k ≡ true
  all_inside k l =
      yes_inside 0 (span tree) k (omega arith)
      (omega (arith, l, v.long, tree_value_span types members (sweepable_walkable s) t n v.fits))

  made_value : {new : List ℕ} → length new ≡ length image → Bytes new → flat new ≡ made tree 0 (flat image)
      → new ≡ value_normal types members t n image
  unfolding normal_image
  made_value {new} long b e =
      sym (bytes_bits new b) ∙ ap (λ (m : ℕ). chars m (flat new)) long
      ∙ chars_ext (length image) (flat new) (normal (items tree 0) (flat image))
      (λ k l. ap (λ (x : Bits). x k) e ∙ made_inside tree 0 (flat image) k (all_inside k l))

  module _ {new : List ℕ} (long : length new ≡ length image) (b : Bytes new) where
    -- a value of atomics made normal is its normal image
    pub atomics_normal : {a : Atomic} → t ≡ ty.Atomic a → flat new ≡ made (atomics_tree a n) 0 (flat image)
        → new ≡ value_normal types members t n image
    unfolding tree_of_value
    atomics_normal is e = made_value long b (e ∙ rw is refl)

    -- one structure made normal is the value's normal image
    pub one_normal : {i : ℕ} → t ≡ ty.Struct i → n ≡ 0 → flat new ≡ made (tree_in types members i) 0 (flat image)
        → new ≡ value_normal types members t n image
    unfolding tree_of_value structs_tree
    one_normal is none e = made_value long b (e ∙ rw (is, eq-eqb n 0 none) refl)

    -- an array of structures made normal is the value's normal image
    pub all_normal : {i : ℕ} → t ≡ ty.Struct i → (n ≡ 0 → ⊥)
        → flat new ≡ made (array n (tree_in types members i)) 0 (flat image)
        → new ≡ value_normal types members t n image
    unfolding tree_of_value structs_tree
    all_normal is some e = made_value long b (e ∙ rw (is, ne_eqb n 0 some) refl)

-- ---- the call

module _ (types members : List ℕ) (t : Ty) (n : ℕ) (image : List ℕ) where
  no_type : is_there types t ≡ false → MadeNormal types members t n image (Err NoSuchType) image
  unfolding normal_result
  no_type e = record { answer = rw e refl; leaves = rw e refl }

  no_image : is_there types t ≡ true → image_fits types t n image ≡ false
      → MadeNormal types members t n image (Err ImageLength) image
  unfolding normal_result
  no_image e f = record { answer = rw (e, f) refl; leaves = rw (e, f) refl }

  -- the ways out with 15 and 14: the image is not one of the type, and it is as it was
  pub unfit_normal : {w : Refusal} → why w ≡ said_of_image types t n (length image)
      → MadeNormal types members t n image (Err w) image
  unfit_normal {w} e =
      unfit types t n image (λ w. MadeNormal types members t n image (Err w) image) no_type no_image w e

  -- the answer where the image is one of the type: nothing is refused, and the normal image is left
  pub whole_normal : {new : List ℕ} → done tt ≡ said_of_image types t n (length image)
      → new ≡ value_normal types members t n image → MadeNormal types members t n image (Ok tt) new
  unfolding normal_result
  whole_normal e w =
      let f = fit_there types t n image e in
      let g = fit_long types t n image e in
      record { answer = rw (f, g) refl; leaves = w ∙ rw (f, g) refl }
