-- A write whose type is there and whose image and stream fit (document 01, "Writing"): what it answers and leaves.
use Rattle.types.specs.refusals.Said.{said_by}
use Rattle.std.specs.Prelude.{ℕ, List, ◌≡◌, Result}
use Rattle.types.specs.declared.refusals.refusal.Refusal.{Refusal}
use Rattle.types.specs.declared.tables.member.Ty.{Ty}
use Rattle.values.specs.stream.Form.{count_in}
use Rattle.values.specs.writing.Written.{taken_of, value_written, bytes_after}

-- the same of a value whose type is there, whose image fits, and of a stream whose form is good
pub record Entered (types members : List ℕ) (t : Ty) (n : ℕ) (s image : List ℕ) (r : Result (Unit {0}) Refusal)
    (new : List ℕ) : Type 0 where
  pub answer : said_by r ≡ taken_of (count_in s) (value_written types members t n s image)
  pub leaves : new ≡ bytes_after (value_written types members t n s image) image
