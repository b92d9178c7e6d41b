-- What reading, writing and making normal ask first (document 01, "Reading", "Refusal numbers"): where the image fits
-- its type is there and its length is right; a refusal of it is the call's refusal.
use Prim.Native.Nat.{ℕ, ◌*◌}
use mathlib.Core.Path.{◌≡◌, refl}
use mathlib.Core.Bool.{Bool, true, false, cond}
use mathlib.Core.List.{List}
use borrow.Author.Tests.{eqb-true}
use lib.Dec.{eqb}
use lib.ListN.{length}
use Rattle.words.proofs.TestLaws.{clash}
use Rattle.types.specs.layout.Placing.{times}
use Rattle.types.specs.refusals.Said.{Said, done, refused, why}
use Rattle.types.specs.tables.Sizes.{size_in, sizes_in}
use Rattle.types.specs.tables.There.{is_there}
use Rattle.types.specs.declared.refusals.refusal.Refusal.{Refusal}
use Rattle.types.specs.declared.refusals.refusal.Refusal.TheVariants.{ImageLength, NoSuchType}
use Rattle.types.specs.declared.tables.member.Ty.{Ty}
use Rattle.types.proofs.Face.{there_fits, why_same}
use Rattle.values.specs.inside.reading.Images.{said_of_image}
use Rattle.values.specs.inside.reading.Walkable.{ValueImage}
use Rattle.values.specs.reading.Read.{image_fits}

-- ---- two tests

abbrev tested : Bool → Bool → Said (Unit {0})
tested a b = cond a (cond b (done tt) (refused 14 0)) (refused 15 0)

both_first : (a b : Bool) → done tt ≡ tested a b → a ≡ true
both_first true b e = refl
both_first false b e = cc

both_second : (a b : Bool) → done tt ≡ tested a b → b ≡ true
both_second true true e = refl
both_second true false e = cc
both_second false b e = cc

-- a refusal of the two tests is that of the first that is failed
failed : (P : Refusal → Type 0) (a b : Bool) → (a ≡ false → P NoSuchType) → (a ≡ true → b ≡ false → P ImageLength)
    → (w : Refusal) → why w ≡ tested a b → P w
failed P true true p q w e = clash {b = true} refl cc
failed P true false p q w e = rw (why_same w ImageLength e) (q refl refl)
failed P false b p q w e = rw (why_same w NoSuchType e) (p refl)

-- ---- what is said of a length

module _ (types : List ℕ) (t : Ty) (n long : ℕ) where
  -- where there is no such type, 15 is said
  pub fit_absent : is_there types t ≡ false → refused 15 0 ≡ said_of_image types t n long
  unfolding said_of_image
  fit_absent e = rw e refl

  module _ (there : is_there types t ≡ true) where
    -- where the length is not that of a value, 14 is said
    pub fit_wrong : eqb long (size_in (sizes_in types) t * times n) ≡ false
        → refused 14 0 ≡ said_of_image types t n long
    unfolding said_of_image
    fit_wrong e = rw (there, e) refl

    -- where type and length are right, nothing is refused
    pub fit_done : eqb long (size_in (sizes_in types) t * times n) ≡ true → done tt ≡ said_of_image types t n long
    unfolding said_of_image
    fit_done e = rw (there, e) refl

-- ---- an image of a value

module _ (types : List ℕ) (t : Ty) (n : ℕ) (image : List ℕ) where
  -- where the image fits, its type is there
  pub fit_there : done tt ≡ said_of_image types t n (length image) → is_there types t ≡ true
  unfolding said_of_image
  fit_there e = both_first (is_there types t) (image_fits types t n image) e

  -- where the image fits, its length is right
  pub fit_long : done tt ≡ said_of_image types t n (length image) → image_fits types t n image ≡ true
  unfolding said_of_image
  fit_long e = both_second (is_there types t) (image_fits types t n image) e

  -- where the image fits, it is one of the value
  pub fit_image : done tt ≡ said_of_image types t n (length image) → ValueImage types t n image
  fit_image e =
      record {
        fits = there_fits types t (fit_there e);
        long = eqb-true (length image) (size_in (sizes_in types) t * times n) (fit_long e);
      }

  -- what holds of both refusals of an image, each where it is due, holds of the one that the image gets
  pub unfit : (P : Refusal → Type 0) → (is_there types t ≡ false → P NoSuchType)
      → (is_there types t ≡ true → image_fits types t n image ≡ false → P ImageLength)
      → (w : Refusal) → why w ≡ said_of_image types t n (length image) → P w
  unfolding said_of_image
  unfit P p q w e = failed P (is_there types t) (image_fits types t n image) p q w e
