-- A reading whose type is there and whose image fits (document 01, "Reading"): what it answers and leaves.
use Rattle.types.specs.refusals.Said.{said_by}
use Rattle.std.specs.Prelude.{ℕ, List, ◌≡◌, length, Result}
use Rattle.types.specs.declared.refusals.refusal.Refusal.{Refusal}
use Rattle.types.specs.declared.tables.member.Ty.{Ty}
use Rattle.values.specs.reading.Read.{stream_answer, value_stream, left_by}

-- the same of a value whose type is there and whose image fits
pub record StreamWritten (types members : List ℕ) (t : Ty) (n : ℕ) (image out : List ℕ) (r : Result ℕ Refusal)
    (new : List ℕ) : Type 0 where
  pub answer : said_by r ≡ stream_answer (value_stream types members t n image) (length out)
  pub leaves : new ≡ left_by (stream_answer (value_stream types members t n image) (length out)) out
      (value_stream types members t n image)
