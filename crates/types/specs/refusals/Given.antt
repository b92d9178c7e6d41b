-- Bytes given into a caller's buffer (document 01, "Refusal numbers": 15, then 16): whole, from the buffer's start on,
-- or none of them. Templates and the lines of a listing are given so.
use Rattle.std.specs.Prelude.{ℕ, Bool, cond, ◌&&◌, List, ◌≡◌, leb, length, Result}
use Rattle.std.proofs.lemmas.List.Edits.{sets}
use Rattle.types.specs.declared.refusals.refusal.Refusal.{Refusal}
use Rattle.types.specs.refusals.Said.{Said, done, refused, said_by}

-- the length of bytes s that there are, or not, where the buffer has room for them
unfoldable pub length_given : Bool → List ℕ → List ℕ → Said ℕ
length_given there s out =
    cond there (cond (leb (length s) (length out)) (done (length s)) (refused 16 0)) (refused 15 0)

-- what the buffer then holds
unfoldable pub buffer_left : Bool → List ℕ → List ℕ → List ℕ
buffer_left there s out = cond (there && leb (length s) (length out)) (sets out 0 s) out

pub record Given (there : Bool) (s out : List ℕ) (r : Result ℕ Refusal) (left : List ℕ) : Type 0 where
  pub is : said_by r ≡ length_given there s out
  pub bytes : left ≡ buffer_left there s out
