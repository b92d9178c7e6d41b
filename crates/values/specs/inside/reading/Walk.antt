-- The walk that the code makes over the tables (document 01, "Reading"): the entries of a value, each member read from
-- its own part of the image. That it is the reading of the type's tree is the law `meaning`.
use Rattle.std.specs.Prelude.{ℕ, zero, suc, ◌+◌, ◌*◌, Bool, true, false, cond, List, [], ◌∷◌, ◌++◌, eqb, Option, Some}
use Rattle.std.specs.Prelude.{None}
use Rattle.words.specs.Bits.{flat}
use Rattle.words.specs.Words.{part}
use Rattle.types.specs.atomics.Atomic.{bit_string, size_of}
use Rattle.types.specs.layout.Placing.{times}
use Rattle.types.specs.tables.Lent.{member_at, type_at}
use Rattle.types.specs.tables.Limits.{most_types}
use Rattle.types.specs.tables.Sizes.{size_in, sizes_in}
use Rattle.types.specs.declared.atomics.atomic.Atomic.{Atomic}
use Rattle.types.specs.declared.tables.member.Member.{Member}
use Rattle.types.specs.declared.tables.member.Ty.{Ty}
use Rattle.types.specs.declared.tables.member.Ty.TheVariants as ty
use Rattle.values.specs.reading.Leaf.{emit, leaf_of}
use Rattle.values.specs.reading.Texts.{text_in, capacity_at}
use Rattle.values.specs.reading.Trees.{is_string_kind}
use Rattle.values.specs.stream.Stream.{Token, bool, text, member, mark}

-- g 0, and so on up to g (n - 1)
unfoldable pub up_to : (ℕ → List Token) → ℕ → List Token
up_to g zero = []
up_to g (suc n) = up_to g n ++ g n

-- brackets of two kinds around some entries
abbrev pub wrap : ℕ → ℕ → List Token → List Token
wrap start stop ts = mark start ∷ (ts ++ mark stop ∷ [])

-- ---- atomics

abbrev pub bit_token : List ℕ → ℕ → List Token
bit_token image k = bool (flat image k) ∷ []

-- n bits as an array
unfoldable pub bits_out : List ℕ → ℕ → List Token
bits_out image n = wrap 10 11 (up_to (bit_token image) n)

-- one atomic that is no bit string
abbrev pub number_out : Atomic → List ℕ → List Token
number_out a image = emit (leaf_of a) (flat image) ∷ []

abbrev pub element_out : Atomic → List ℕ → ℕ → List Token
element_out a image i = number_out a (part image (size_of a * i) (size_of a))

-- n of them as an array
unfoldable pub numbers_out : Atomic → ℕ → List ℕ → List Token
numbers_out a n image = wrap 10 11 (up_to (element_out a image) n)

-- an atomic, or n of them where n is not 0; bit strings give their bits
unfoldable pub atomics_out : Atomic → ℕ → List ℕ → List Token
atomics_out a n image =
    cond (bit_string a) (bits_out image (8 * (size_of a * times n)))
    (cond (eqb n 0) (number_out a image) (numbers_out a n image))

-- ---- strings

abbrev pub text_out : ℕ → List ℕ → List Token
text_out capacity image = text (text_in capacity image) ∷ []

-- ---- structures

-- a member without a bit whose type is a structure
abbrev pub bit_nested : Option ℕ → Ty → Bool
bit_nested (Some k) t = false
bit_nested None (ty.Atomic a) = false
bit_nested None (ty.Struct i) = true

-- a visible structure, or an array of structures
unfoldable pub is_nested : Member → Bool
is_nested m = cond m.hidden false (bit_nested m.bit m.ty)

abbrev pub bit_out : Option ℕ → (ℕ → List Token) → List Token → List Token
bit_out None f ts = ts
bit_out (Some k) f ts = f k

-- what an atomic member gives; a structure gives nothing here
abbrev pub leaf_value : Ty → ℕ → (ℕ → List ℕ) → List Token
leaf_value (ty.Atomic a) n bytes = atomics_out a n (bytes (size_of a * times n))
leaf_value (ty.Struct i) n bytes = []

-- member j where it is no structure: nothing where it is hidden, else its number and its value
unfoldable pub leaf_out : ℕ → Member → List ℕ → List Token
leaf_out j m image =
    cond m.hidden []
    (member j
    ∷ bit_out m.bit (λ k. bool (flat image (8 * m.offset + k)) ∷ [])
    (leaf_value m.ty m.count (part image m.offset)))

module _ (types members : List ℕ) (rec : ℕ → List ℕ → List Token) where
  -- an element of an array of structures
  abbrev pub element_by : ℕ → List ℕ → ℕ → List Token
  element_by i image k = rec i (part image (sizes_in types i * k) (sizes_in types i))

  unfoldable pub elements_by : ℕ → ℕ → List ℕ → List Token
  elements_by i n image = wrap 10 11 (up_to (element_by i image) n)

  -- a structure, or n of them where n is not 0
  unfoldable pub structs_by : ℕ → ℕ → List ℕ → List Token
  structs_by i n image = cond (eqb n 0) (rec i image) (elements_by i n image)

  -- a value has a type and a count: 0 for one, else an array
  abbrev pub value_by : Ty → ℕ → List ℕ → List Token
  value_by (ty.Atomic a) n image = atomics_out a n image
  value_by (ty.Struct i) n image = structs_by i n image

  -- a member's bytes
  abbrev pub bytes_by : Member → ℕ
  bytes_by m = size_in (sizes_in types) m.ty * times m.count

  -- member j: nothing where it is hidden, else its number and its value
  unfoldable pub member_by : ℕ → Member → List ℕ → List Token
  member_by j m image =
      cond m.hidden []
      (member j
      ∷ bit_out m.bit (λ k. bool (flat image (8 * m.offset + k)) ∷ [])
      (value_by m.ty m.count (part image m.offset (bytes_by m))))

  abbrev pub row_by : ℕ → List ℕ → ℕ → List Token
  row_by first image j = member_by j (member_at members (first + j)) image

  unfoldable pub members_by : ℕ → List ℕ → List Token
  members_by i image = wrap 8 9 (up_to (row_by (type_at types i).first image) (type_at types i).count)

  -- structure i
  unfoldable pub struct_by : ℕ → List ℕ → List Token
  struct_by i image =
      cond (is_string_kind (type_at types i).kind) (text_out (capacity_at members (type_at types i).first) image)
      (members_by i image)

-- nested at most so deep
unfoldable pub struct_within : List ℕ → List ℕ → ℕ → ℕ → List ℕ → List Token
struct_within types members zero i image = []
struct_within types members (suc f) i image = struct_by types members (struct_within types members f) i image

-- structure i: there are at most 200
unfoldable pub struct_out : List ℕ → List ℕ → ℕ → List ℕ → List Token
struct_out types members i image = struct_within types members most_types i image

-- a value
unfoldable pub value_out : List ℕ → List ℕ → Ty → ℕ → List ℕ → List Token
value_out types members t n image = value_by types members (struct_out types members) t n image
