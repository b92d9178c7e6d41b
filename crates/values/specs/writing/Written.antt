-- Writing (document 01, "Writing", "Refusal numbers"): what the call answers and leaves: 15, 14, 17 in that order, then
-- the first bad entry with its number in the stream, the entry count where one is missing; and after a refusal the
-- image is as it was.
use Rattle.std.specs.Prelude.{ℕ, ◌-◌, cond, List, ◌≡◌, length, Result}
use Rattle.words.specs.Bits.{flat}
use Rattle.types.specs.declared.refusals.refusal.Refusal.{Refusal}
use Rattle.types.specs.refusals.Said.{Said, done, refused, said_by}
use Rattle.types.specs.tables.There.{is_there}
use Rattle.types.specs.declared.tables.member.Ty.{Ty}
use Rattle.values.specs.reading.Leaf.{chars}
use Rattle.values.specs.reading.Read.{image_fits}
use Rattle.values.specs.reading.Trees.{known_in, tree_of_value}
use Rattle.values.specs.stream.Decode.{tokens_in}
use Rattle.values.specs.stream.Form.{count_in, stream_ok}
use Rattle.values.specs.writing.Writing.{Outcome, ok, bad, written}

-- of n entries, the first of those that are left is number n less how many are left
abbrev pub taken_of : ℕ → Outcome → Said (Unit {0})
taken_of n (ok ts z) = done tt
taken_of n (bad number ts) = refused number (n - length ts)

-- the image's bytes afterwards
abbrev pub bytes_after : Outcome → List ℕ → List ℕ
bytes_after (ok ts z) image = chars (length image) z
bytes_after (bad number ts) image = image

-- what the entries of a stream do to an image of a value
unfoldable pub value_written : List ℕ → List ℕ → Ty → ℕ → List ℕ → List ℕ → Outcome
value_written types members t n s image =
    written (tree_of_value (known_in types members) t n) (tokens_in s) (flat image)

-- a call's answer, and the image it leaves
pub record WriteResult : Type 0 where
  pub answer : Said (Unit {0})
  pub image : List ℕ

abbrev pub refusing : ℕ → List ℕ → WriteResult
refusing number image = record { answer = refused number 0; image = image }

abbrev pub taking : ℕ → Outcome → List ℕ → WriteResult
taking n w image = record { answer = taken_of n w; image = bytes_after w image }

unfoldable pub write_result : List ℕ → List ℕ → Ty → ℕ → List ℕ → List ℕ → WriteResult
write_result types members t n s image =
    cond (is_there types t)
    (cond (image_fits types t n image)
    (cond (stream_ok s) (taking (count_in s) (value_written types members t n s image) image)
    (refusing 17 image))
    (refusing 14 image))
    (refusing 15 image)

pub record Done (types members : List ℕ) (t : Ty) (n : ℕ) (s image : List ℕ) (r : Result (Unit {0}) Refusal)
    (new : List ℕ) : Type 0 where
  pub answer : said_by r ≡ (write_result types members t n s image).answer
  pub leaves : new ≡ (write_result types members t n s image).image
