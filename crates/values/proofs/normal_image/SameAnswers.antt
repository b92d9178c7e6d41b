-- The first half of demand 3 (document 01, "Normal image", "What promises shut out") over the answers of calls, for
-- tables as our own calls left them: of two images of a value, the streams that `read` left in two buffers are the same
-- exactly when the images that `normal` left are.
use Rattle.std.specs.Prelude.{Result, Ok}
use Prim.Native.Nat.{ℕ, ◌*◌}
use native.Mathlib.Omega.{arith}
use mathlib.Core.Path.{◌≡◌, refl, sym, ◌∙◌}
use mathlib.Core.List.{List}
use borrow.Author.Tests.{eq-eqb}
use lib.ListN.{length, take}
use Rattle.words.specs.Words.{Bytes}
use Rattle.types.specs.declared.refusals.refusal.Refusal.{Refusal}
use Rattle.types.specs.layout.Placing.{times}
use Rattle.types.specs.tables.Kept.{KeptRows}
use Rattle.types.specs.tables.Sizes.{size_in, sizes_in}
use Rattle.types.specs.declared.tables.member.Ty.{Ty}
use Rattle.values.specs.normal_image.Normalised.{MadeNormal, normal_result, value_normal}
use Rattle.values.specs.reading.Read.{Answered}
use Rattle.values.proofs.normal_image.KeptPlaced.{kept_disjoint}
use Rattle.values.proofs.normal_image.SameStream.{same_stream}
use Rattle.values.proofs.reading.ReadingLaws.{LengthTold, length_told}

-- two streams are the same exactly when two images are
pub record SameExactly (stream stream' image image' : List ℕ) : Type 0 where
  pub same_images : stream ≡ stream' → image ≡ image'
  pub same_streams : image ≡ image' → stream ≡ stream'

-- where a length was answered, `normal` leaves the normal image
normal_left : {types members : List ℕ} {t : Ty} {n k : ℕ} {x out new : List ℕ} {r : Result (Unit {0}) Refusal}
    {z : List ℕ} → LengthTold types members t n x out k new → MadeNormal types members t n x r z
    → z ≡ value_normal types members t n x
unfolding normal_result
normal_left {types} {t = t} {n = n} {x = x} told m =
    m.leaves ∙ rw (told.there, eq-eqb (length x) (size_in (sizes_in types) t * times n) told.value.long) refl

module _ {types members : List ℕ} (kept : KeptRows types members) {t : Ty} {n : ℕ} {x y : List ℕ} (b : Bytes x)
    (c : Bytes y) where
  -- the first half of demand 3, over the answers of two calls of `read` and two of `normal`
  pub same_answers : {i j : ℕ} {out out' new new' z z' : List ℕ} {r r' : Result (Unit {0}) Refusal}
      → Answered types members t n x out (Ok i) new → Answered types members t n y out' (Ok j) new'
      → MadeNormal types members t n x r z → MadeNormal types members t n y r' z'
      → SameExactly (take i new) (take j new') z z'
  same_answers p q l m =
      let first = length_told p in
      let second = length_told q in
      let both = same_stream (kept_disjoint kept.kept) t n first.value.fits x y
      first.value second.value b c (omega (arith, first.room)) (omega (arith, second.room)) in
      let one = normal_left first l in
      let two = normal_left second m in
      record {
        same_images = λ e. one ∙ both.0 (sym first.stream ∙ e ∙ second.stream) ∙ sym two;
        same_streams = λ e. first.stream ∙ both.1 (sym one ∙ e ∙ two) ∙ sym second.stream;
      }
