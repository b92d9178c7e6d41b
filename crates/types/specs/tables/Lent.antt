-- Rows of the lent tables: a member or a structure as eight words, and the words of a row read back.
use Rattle.std.specs.Prelude.{ℕ, ◌+◌, ◌-◌, ◌*◌, ◌/◌, ◌%◌, Bool, cond, List, [], ◌∷◌, eqb, ltb, get_or, Option, Some}
use Rattle.std.specs.Prelude.{None}
use Rattle.types.specs.atomics.Atomic.{num_of, atomic_at}
use Rattle.types.specs.declared.tables.member.Member.{Member}
use Rattle.types.specs.declared.tables.member.Span.{Span}
use Rattle.types.specs.declared.tables.member.StructDef.{StructDef}
use Rattle.types.specs.declared.tables.member.StructKind.{StructKind}
use Rattle.types.specs.declared.tables.member.StructKind.TheVariants.{Udt, Predefined, Str, Aoi}
use Rattle.types.specs.declared.tables.member.Ty.{Ty}
use Rattle.types.specs.declared.tables.member.Ty.TheVariants.{Atomic, Struct}

-- an atomic's place among the fifteen, or 0x8000 plus a structure's number
abbrev pub ty_word : Ty → ℕ
ty_word (Atomic a) = num_of a
ty_word (Struct n) = 0x8000 + n

unfoldable pub ty_of_word : ℕ → Ty
ty_of_word w = cond (ltb w 0x8000) (Atomic (atomic_at w)) (Struct (w - 0x8000))

-- 0, or one more than the bit
abbrev pub bit_word : Option ℕ → ℕ
bit_word None = 0
bit_word (Some k) = k + 1

unfoldable pub bit_of_word : ℕ → Option ℕ
bit_of_word w = cond (eqb w 0) None (Some ((w - 1) % 8))

-- 1 for hidden, and 2 for local
abbrev pub flags_of : Bool → Bool → ℕ
flags_of hidden local = cond hidden 1 0 + cond local 2 0

abbrev pub kind_word : StructKind → ℕ
kind_word Udt = 0
kind_word Predefined = 1
kind_word Str = 2
kind_word Aoi = 3

unfoldable pub kind_of_word : ℕ → StructKind
kind_of_word w = cond (eqb w 1) Predefined (cond (eqb w 2) Str (cond (eqb w 3) Aoi Udt))

-- a member's row: where its name stands, and the member
unfoldable pub member_row : Span → Member → List ℕ
member_row s m =
    s.at ∷ s.long ∷ ty_word m.ty ∷ m.count ∷ m.offset ∷ bit_word m.bit ∷ flags_of m.hidden m.local ∷ m.access ∷ []

unfoldable pub name_at : List ℕ → ℕ → Span
name_at t row = record { at = get_or t (8 * row) 0; long = get_or t (8 * row + 1) 0 }

unfoldable pub member_at : List ℕ → ℕ → Member
member_at t row =
    record {
      ty = ty_of_word (get_or t (8 * row + 2) 0);
      count = get_or t (8 * row + 3) 0;
      offset = get_or t (8 * row + 4) 0;
      bit = bit_of_word (get_or t (8 * row + 5) 0);
      hidden = eqb (get_or t (8 * row + 6) 0 % 2) 1;
      local = eqb (get_or t (8 * row + 6) 0 / 2 % 2) 1;
      access = get_or t (8 * row + 7) 0 % 256;
    }

-- a structure's row
unfoldable pub type_row : StructDef → List ℕ
type_row d =
    d.name.at ∷ d.name.long ∷ d.id ∷ d.handle ∷ d.size ∷ kind_word d.kind ∷ d.first ∷ d.count ∷ []

unfoldable pub type_at : List ℕ → ℕ → StructDef
type_at t i =
    record {
      name = record { at = get_or t (8 * i) 0; long = get_or t (8 * i + 1) 0 };
      id = get_or t (8 * i + 2) 0 % 65536;
      handle = get_or t (8 * i + 3) 0 % 65536;
      size = get_or t (8 * i + 4) 0;
      kind = kind_of_word (get_or t (8 * i + 5) 0);
      first = get_or t (8 * i + 6) 0;
      count = get_or t (8 * i + 7) 0;
    }

-- ---- what a row says, in words: every word reads as something

-- below 0x8000 and above 14 as BOOL's
unfoldable pub ty_read : ℕ → ℕ
ty_read w = cond (ltb w 0x8000) (cond (ltb w 15) w 0) w

-- above 8 as one of the eight bits
unfoldable pub bit_read : ℕ → ℕ
bit_read w = cond (eqb w 0) 0 ((w - 1) % 8 + 1)

-- above 3 as a UDT's
unfoldable pub kind_read : ℕ → ℕ
kind_read w = cond (ltb w 4) w 0

-- a member, after its name's place; and the row that holds it
unfoldable pub member_says : Member → List ℕ
member_says m =
    ty_word m.ty ∷ m.count ∷ m.offset ∷ bit_word m.bit ∷ flags_of m.hidden m.local ∷ m.access ∷ []

unfoldable pub member_said : List ℕ → ℕ → List ℕ
member_said t row =
    ty_read (get_or t (8 * row + 2) 0) ∷ get_or t (8 * row + 3) 0 ∷ get_or t (8 * row + 4) 0
    ∷ bit_read (get_or t (8 * row + 5) 0) ∷ get_or t (8 * row + 6) 0 % 4 ∷ get_or t (8 * row + 7) 0 % 256 ∷ []

-- a structure says its row's words; and the row that holds it
unfoldable pub type_said : List ℕ → ℕ → List ℕ
type_said t i =
    get_or t (8 * i) 0 ∷ get_or t (8 * i + 1) 0 ∷ get_or t (8 * i + 2) 0 % 65536 ∷ get_or t (8 * i + 3) 0 % 65536
    ∷ get_or t (8 * i + 4) 0 ∷ kind_read (get_or t (8 * i + 5) 0) ∷ get_or t (8 * i + 6) 0 ∷ get_or t (8 * i + 7) 0 ∷ []
