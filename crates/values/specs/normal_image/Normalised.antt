-- Making an image normal (document 01, "Normal image", "Refusal numbers"): what the call answers and leaves: 15, 14 in
-- that order, else the normal image; and after a refusal the image is as it was.
use Rattle.std.specs.Prelude.{ℕ, cond, List, ◌≡◌, Result}
use Rattle.types.specs.declared.refusals.refusal.Refusal.{Refusal}
use Rattle.types.specs.refusals.Said.{done, said_by}
use Rattle.types.specs.tables.There.{is_there}
use Rattle.types.specs.declared.tables.member.Ty.{Ty}
use Rattle.values.specs.normal_image.Normal.{normal_image}
use Rattle.values.specs.reading.Read.{image_fits}
use Rattle.values.specs.reading.Trees.{known_in, tree_of_value}
use Rattle.values.specs.writing.Written.{WriteResult, refusing}

-- the normal image of a value
abbrev pub value_normal : List ℕ → List ℕ → Ty → ℕ → List ℕ → List ℕ
value_normal types members t n image = normal_image (tree_of_value (known_in types members) t n) image

unfoldable pub normal_result : List ℕ → List ℕ → Ty → ℕ → List ℕ → WriteResult
normal_result types members t n image =
    cond (is_there types t)
    (cond (image_fits types t n image) (record { answer = done tt; image = value_normal types members t n image })
    (refusing 14 image))
    (refusing 15 image)

pub record MadeNormal (types members : List ℕ) (t : Ty) (n : ℕ) (image : List ℕ) (r : Result (Unit {0}) Refusal)
    (new : List ℕ)
    : Type 0 where
  pub answer : said_by r ≡ (normal_result types members t n image).answer
  pub leaves : new ≡ (normal_result types members t n image).image
