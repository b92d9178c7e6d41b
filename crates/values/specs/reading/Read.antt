-- Reading (document 01, "Reading", "Refusal numbers"): the stream of a value, and what the call answers and leaves: 15,
-- 14, 16 in that order, and then nothing is written; else the stream, and the bytes past it kept.
use Rattle.std.specs.Prelude.{ℕ, ◌*◌, min, Bool, cond, List, ◌≡◌, eqb, leb, length, Result}
use Rattle.std.proofs.lemmas.List.Edits.{sets}
use Rattle.words.specs.Bits.{flat}
use Rattle.types.specs.declared.refusals.refusal.Refusal.{Refusal}
use Rattle.types.specs.layout.Placing.{times}
use Rattle.types.specs.refusals.Said.{Said, done, refused, said_by}
use Rattle.types.specs.tables.Sizes.{size_in, sizes_in}
use Rattle.types.specs.tables.There.{is_there}
use Rattle.types.specs.declared.tables.member.Ty.{Ty}
use Rattle.values.specs.reading.Tree.{Tree, items, read}
use Rattle.values.specs.reading.Trees.{known_in, tree_of_value}
use Rattle.values.specs.stream.Stream.{stream_bytes, most_bytes}

-- the stream of an image of a tree
unfoldable pub stream_of : Tree → List ℕ → List ℕ
stream_of tree image = stream_bytes (read (items tree 0) (flat image))

-- the stream of a value
abbrev pub value_stream : List ℕ → List ℕ → Ty → ℕ → List ℕ → List ℕ
value_stream types members t n image = stream_of (tree_of_value (known_in types members) t n) image

-- an image of a value has size times max(count, 1) bytes
abbrev pub image_fits : List ℕ → Ty → ℕ → List ℕ → Bool
image_fits types t n image = eqb (length image) (size_in (sizes_in types) t * times n)

-- the stream has room in a buffer of so many bytes, and is at most 2^31 bytes long
abbrev pub has_room : List ℕ → ℕ → Bool
has_room stream long = leb (length stream) (min long most_bytes)

-- the answer about a stream that is there
unfoldable pub stream_answer : List ℕ → ℕ → Said ℕ
stream_answer stream long = cond (has_room stream long) (done (length stream)) (refused 16 0)

unfoldable pub read_answer : List ℕ → List ℕ → Ty → ℕ → List ℕ → ℕ → Said ℕ
read_answer types members t n image long =
    cond (is_there types t)
    (cond (image_fits types t n image) (stream_answer (value_stream types members t n image) long) (refused 14 0))
    (refused 15 0)

-- what an answer leaves in the buffer
abbrev pub left_by : Said ℕ → List ℕ → List ℕ → List ℕ
left_by (done n) out stream = sets out 0 stream
left_by (refused number place) out stream = out

pub record Answered (types members : List ℕ) (t : Ty) (n : ℕ) (image out : List ℕ) (r : Result ℕ Refusal) (new : List ℕ)
    : Type 0 where
  pub answer : said_by r ≡ read_answer types members t n image (length out)
  pub leaves : new ≡ left_by (read_answer types members t n image (length out)) out
      (value_stream types members t n image)
