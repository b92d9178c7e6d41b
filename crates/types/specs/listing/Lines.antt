-- The lines that the program `layout` prints (document 01, end of "Reference cases"): for a type, a member and a
-- refusal. Numbers are decimal without leading zeros; no number of 64 bits has more digits than `digits` gives.
use Rattle.std.specs.Prelude.{ℕ, Bool, true, false, ◌&&◌, List, [], ◌∷◌, ◌++◌, ltb, length, Option, Some, None}
use Rattle.types.specs.atomics.Atomic.{name_of}
use Rattle.types.specs.layout.HostNames.{digits}
use Rattle.types.specs.tables.Defs.{name_in}
use Rattle.types.specs.tables.Lent.{member_at, name_at, type_at}
use Rattle.types.specs.templates.Template.{has_template, template_in}
use Rattle.types.specs.templates.Waste.{waste_in}
use Rattle.types.specs.declared.tables.member.Member.{Member}
use Rattle.types.specs.declared.tables.member.StructDef.{StructDef}
use Rattle.types.specs.declared.tables.member.Ty.{Ty}
use Rattle.types.specs.declared.tables.member.Ty.TheVariants.{Atomic, Struct}

-- ---- lines

-- some bytes and the one that ends them
abbrev pub with_stop : List ℕ → ℕ → List ℕ
with_stop s b = s ++ (b ∷ [])

-- a space stands after each field but the last, and a newline after that
unfoldable pub line : List (List ℕ) → List ℕ
line [] = []
line (f ∷ []) = with_stop f 10
line (f ∷ g ∷ fs) = with_stop f 32 ++ line (g ∷ fs)

-- the bytes of `type` and of `refused`
abbrev pub type_word : List ℕ
type_word = 116 ∷ 121 ∷ 112 ∷ 101 ∷ []

abbrev pub refused_word : List ℕ
refused_word = 114 ∷ 101 ∷ 102 ∷ 117 ∷ 115 ∷ 101 ∷ 100 ∷ []

-- id, size, members, template bytes, waste
abbrev pub type_numbers : ℕ → ℕ → ℕ → ℕ → ℕ → List (List ℕ)
type_numbers id size members template waste =
    digits id ∷ digits size ∷ digits members ∷ digits template ∷ digits waste ∷ []

-- name, id, size, members, template bytes, waste
unfoldable pub type_line : List ℕ → ℕ → ℕ → ℕ → ℕ → ℕ → List ℕ
type_line name id size members template waste =
    line (type_word ∷ name ∷ type_numbers id size members template waste)

-- hidden or visible: `h` or `v`
abbrev pub seen_letter : Bool → List ℕ
seen_letter true = 104 ∷ []
seen_letter false = 118 ∷ []

-- bit, `-` where none
abbrev pub bit_text : Option ℕ → List ℕ
bit_text None = 45 ∷ []
bit_text (Some k) = digits k

-- count, offset, bit, name
abbrev pub member_place : Member → List ℕ → List (List ℕ)
member_place m name = digits m.count ∷ digits m.offset ∷ bit_text m.bit ∷ name ∷ []

-- number, hidden or visible, stored type, count, offset, bit, name
unfoldable pub member_line : ℕ → List ℕ → Member → List ℕ → List ℕ
member_line number type m name =
    line (digits number ∷ seen_letter m.hidden ∷ type ∷ member_place m name)

-- a refusal's number and place
unfoldable pub refused_line : ℕ → ℕ → List ℕ
refused_line number place = line (refused_word ∷ digits number ∷ digits place ∷ [])

-- ---- the lines of what the tables hold

-- a type's name, where the structures' names are known by their numbers
abbrev pub printed_type : (ℕ → List ℕ) → Ty → List ℕ
printed_type structs (Atomic a) = name_of a
printed_type structs (Struct n) = structs n

-- the names of the structures in a table
abbrev pub struct_names : List ℕ → List ℕ → ℕ → List ℕ
struct_names types names n = name_in names (type_at types n).name

-- the line of the structure in some rows
abbrev pub type_line_in : List ℕ → List ℕ → List ℕ → StructDef → List ℕ
type_line_in types members names d =
    type_line (name_in names d.name) d.id d.size d.count (length (template_in types members names d))
    (waste_in types members names d)

-- the line of the member in a row, which has a number
abbrev pub member_line_in : List ℕ → List ℕ → List ℕ → ℕ → ℕ → List ℕ
member_line_in types members names row number =
    member_line number (printed_type (struct_names types names) (member_at members row).ty) (member_at members row)
    (name_in names (name_at members row))

-- the type with a number is there, and has a k-th member
unfoldable pub has_member : List ℕ → ℕ → ℕ → Bool
has_member types i k = has_template types (Struct i) && ltb k (type_at types i).count
