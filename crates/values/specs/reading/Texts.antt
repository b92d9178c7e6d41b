-- The stored text of a string (document 01, "Reading": handed back as that part of the caller's image; "Refusal
-- numbers"): min(LEN, capacity) bytes of DATA; 15 for no such type or no string type, then 14 for an image that is not
-- of the type's size, else 0.
use denote.Bor.{Bor}
use Rattle.std.specs.Prelude.{ℕ, ◌+◌, cond, List, [], ◌≡◌, eqb, length, Result, Ok, Err, IfOk}
use Rattle.words.specs.Bits.{flat}
use Rattle.words.specs.Words.{part}
use Rattle.types.specs.tables.Lent.{member_at, type_at}
use Rattle.types.specs.tables.Sizes.{sizes_in}
use Rattle.types.specs.tables.There.{is_there}
use Rattle.types.specs.declared.refusals.refusal.Refusal.{Refusal}
use Rattle.types.specs.refusals.Said.{Said, done, refused, why}
use Rattle.types.specs.declared.tables.member.Ty.{Ty}
use Rattle.types.specs.declared.tables.member.Ty.TheVariants as ty
use Rattle.values.specs.reading.Leaf.{clipped}
use Rattle.values.specs.reading.Trees.{is_string_kind}

-- min(LEN, capacity)
abbrev pub text_length : ℕ → List ℕ → ℕ
text_length capacity image = clipped capacity (flat image)

-- the text: so many bytes of DATA, which begins after LEN
abbrev pub text_in : ℕ → List ℕ → List ℕ
text_in capacity image = part image 4 (text_length capacity image)

-- the capacity of a string whose members begin at a row
abbrev pub capacity_at : List ℕ → ℕ → ℕ
capacity_at members first = (member_at members (first + 1)).count

-- the number for structure i and an image of so many bytes
unfoldable pub string_number : List ℕ → ℕ → ℕ → ℕ
string_number types i long =
    cond (is_string_kind (type_at types i).kind) (cond (eqb long (sizes_in types i)) 0 14) 15

-- an atomic is no string type
abbrev pub type_number : List ℕ → Ty → ℕ → ℕ
type_number types (ty.Atomic a) long = 15
type_number types (ty.Struct i) long = string_number types i long

unfoldable pub text_number : List ℕ → Ty → List ℕ → ℕ
text_number types t image = cond (is_there types t) (type_number types t (length image)) 15

-- the capacity of a string type
abbrev pub capacity_of : List ℕ → List ℕ → Ty → ℕ
capacity_of types members (ty.Atomic a) = 0
capacity_of types members (ty.Struct i) = capacity_at members (type_at types i).first

-- the text's part of the image; an empty part where it is refused
unfoldable pub text_part : List ℕ → List ℕ → Ty → List ℕ → List ℕ
text_part types members t image =
    cond (eqb (text_number types t image) 0) (text_in (capacity_of types members t) image) []

-- the answer: the text, or the refusal
unfoldable pub text_answer : List ℕ → List ℕ → Ty → List ℕ → Said (List ℕ)
text_answer types members t image =
    cond (eqb (text_number types t image) 0) (done (text_part types members t image))
    (refused (text_number types t image) 0)

-- what an answer with a part says: the part's bytes, or the refusal
abbrev pub said_of_part : Result (Bor (List ℕ)) Refusal → Said (List ℕ)
said_of_part (Ok part) = done part.now
said_of_part (Err w) = why w

-- a part is the very part of the image behind LEN, and no other bytes like it: it lies in the image's block of memory,
-- and begins 4 bytes after the image
pub record VeryPart (image part : Bor (List ℕ)) : Type 0 where
  pub block : part.ref_ptr.0 ≡ image.ref_ptr.0
  pub start : part.ref_ptr.1 ≡ image.ref_ptr.1 + 4

-- what a caller who asks for the text of an image gets
pub record Stored (types members : List ℕ) (t : Ty) (image : Bor (List ℕ)) (r : Result (Bor (List ℕ)) Refusal)
    : Type 0 where
  pub answer : said_of_part r ≡ text_answer types members t image.now
  pub place : IfOk r (VeryPart image)
