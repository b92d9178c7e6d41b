-- Templates (document 01, "Template and handle"): a template's bytes, its length, also in a controller's words, and
-- which types have one.
use Rattle.std.specs.Prelude.{ℕ, zero, suc, ◌+◌, ◌-◌, ◌*◌, ◌/◌, ◌%◌, Bool, false, cond, not, ◌&&◌, List, [], ◌∷◌}
use Rattle.std.specs.Prelude.{◌++◌, Option, Some, None}
use Rattle.std.specs.Prelude.{eqb, leb, ltb, length, replicate}
use Rattle.words.specs.Words.{bytes_of}
use Rattle.types.specs.refusals.Said.{Said, done, refused}
use Rattle.types.specs.tables.Defs.{Part, Def, def_of}
use Rattle.types.specs.tables.Lent.{type_at}
use Rattle.types.specs.tables.Limits.{most_types}
use Rattle.types.specs.tables.TypeWord.{type_in, ids_in}
use Rattle.types.specs.declared.tables.member.Member.{Member}
use Rattle.types.specs.declared.tables.member.StructDef.{StructDef}
use Rattle.types.specs.declared.tables.member.StructKind.{StructKind}
use Rattle.types.specs.declared.tables.member.StructKind.TheVariants.{Udt, Predefined, Str, Aoi}
use Rattle.types.specs.declared.tables.member.Ty.{Ty}
use Rattle.types.specs.declared.tables.member.Ty.TheVariants.{Atomic, Struct}

-- bit number, else the low 16 bits of the count
abbrev pub info_of : Option ℕ → ℕ → ℕ
info_of None count = count % 65536
info_of (Some k) count = k

-- info u16, type u16, offset u32
unfoldable pub info_bytes : (ℕ → ℕ) → Member → List ℕ
info_bytes ids m = bytes_of 2 (info_of m.bit m.count) ++ (bytes_of 2 (type_in ids m.ty) ++ bytes_of 4 m.offset)

unfoldable pub infos : (ℕ → ℕ) → List Part → List ℕ
infos ids [] = []
infos ids (p ∷ ps) = info_bytes ids p.member ++ infos ids ps

-- ids 0x100..0xEFF
unfoldable pub user_id : ℕ → Bool
user_id id = leb 0x100 id && leb id 0xEFF

-- the bytes of `;n` and of `ASCIISTRING82`
abbrev pub semicolon_n : List ℕ
semicolon_n = 59 ∷ 110 ∷ []

abbrev pub ascii_string82 : List ℕ
ascii_string82 = 65 ∷ 83 ∷ 67 ∷ 73 ∷ 73 ∷ 83 ∷ 84 ∷ 82 ∷ 73 ∷ 78 ∷ 71 ∷ 56 ∷ 50 ∷ []

-- the type's name with `;n`; predefined: bare; STRING, the one string type without a user's id: `ASCIISTRING82`
unfoldable pub shown_name : StructKind → ℕ → List ℕ → List ℕ
shown_name Udt id name = name ++ semicolon_n
shown_name Predefined id name = name
shown_name Str id name = cond (user_id id) (name ++ semicolon_n) ascii_string82
shown_name Aoi id name = name ++ semicolon_n

-- each member name and 0
unfoldable pub member_names : List Part → List ℕ
member_names [] = []
member_names (p ∷ ps) = p.name ++ (0 ∷ member_names ps)

-- zeros from a length to a multiple of 4
unfoldable pub padding : ℕ → List ℕ
padding n = replicate ((n + 3) / 4 * 4 - n) 0

-- u16 0xE000 + i for each of n members from the i-th on
unfoldable pub member_ids : ℕ → ℕ → List ℕ
member_ids i zero = []
member_ids i (suc n) = bytes_of 2 (0xE000 + i) ++ member_ids (i + 1) n

-- what every template has: the infos, the type's name and 0, the names
unfoldable pub front_of : (ℕ → ℕ) → Def → List ℕ
front_of ids d = infos ids d.parts ++ (shown_name d.kind d.id d.name ++ (0 ∷ member_names d.parts))

-- for ids 0x100..0xEFF: zeros to a multiple of 4, then the member ids
unfoldable pub template_of : (ℕ → ℕ) → Def → List ℕ
template_of ids d =
    front_of ids d
    ++ cond (user_id d.id) (padding (length (front_of ids d)) ++ member_ids 0 (length d.parts)) []

-- the template of the structure in some rows
abbrev pub template_in : List ℕ → List ℕ → List ℕ → StructDef → List ℕ
template_in types members names d = template_of (ids_in types) (def_of members names d)

-- ceil((length + 23) / 4)
unfoldable pub object_size : ℕ → ℕ
object_size n = (n + 23 + 3) / 4

-- a structure of the table has a template; an atomic has none
abbrev pub has_template : List ℕ → Ty → Bool
has_template types (Atomic a) = false
has_template types (Struct n) = ltb n most_types && not (eqb (type_at types n).id 0)

abbrev pub template_for : List ℕ → List ℕ → List ℕ → Ty → List ℕ
template_for types members names (Atomic a) = []
template_for types members names (Struct n) = template_in types members names (type_at types n)

-- the length of the template of the structure with a number; 15 where there is none
unfoldable pub template_length : List ℕ → List ℕ → List ℕ → ℕ → Said ℕ
template_length types members names n =
    cond (has_template types (Struct n)) (done (length (template_for types members names (Struct n)))) (refused 15 0)
