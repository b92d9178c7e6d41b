-- What is known of a text before it is handed back (document 01, "Reading"): the row of its type, which is a string
-- type that is there; that its bytes lie in the image.
use Rattle.std.specs.Prelude.{ℕ, ◌+◌, ◌≤◌, List, ◌≡◌, length, true, Result, Ok, Err}
use Rattle.types.specs.tables.Lent.{type_at}
use Rattle.types.specs.tables.There.{is_there}
use Rattle.types.specs.declared.refusals.refusal.Refusal.{Refusal}
use Rattle.types.specs.declared.refusals.refusal.Refusal.TheVariants.{NoSuchType}
use Rattle.types.specs.declared.tables.member.StructDef.{StructDef}
use Rattle.types.specs.declared.tables.member.Ty.{Ty}
use Rattle.types.specs.declared.tables.member.Ty.TheVariants as ty
use Rattle.values.specs.reading.Texts.{capacity_of, text_length, text_number}
use Rattle.values.specs.reading.Trees.{is_string_kind}

-- a string type that is there, and its row
pub record StringRow (types : List ℕ) (t : Ty) (d : StructDef) : Type 0 where
  pub number : ℕ
  pub struct : t ≡ ty.Struct number
  pub there : is_there types t ≡ true
  pub row : d ≡ type_at types number
  pub string : is_string_kind d.kind ≡ true

-- no string type: each image is refused with 15
abbrev pub NoString : List ℕ → Ty → Type 0
NoString types t = (image : List ℕ) → text_number types t image ≡ 15

abbrev pub StringFound : List ℕ → Ty → Result StructDef Refusal → Type 0
StringFound types t (Ok d) = StringRow types t d
StringFound types t (Err w) = (w ≡ NoSuchType) × NoString types t

-- the bytes of a text that is not refused lie in the image
pub record TextHeld (types members : List ℕ) (t : Ty) (image : List ℕ) (n : ℕ) : Type 0 where
  pub long : n ≡ text_length (capacity_of types members t) image
  pub inside : 4 + n ≤ length image
