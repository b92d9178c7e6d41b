-- The two types of the reference cases on values (document 01, "Reference cases"), as the layouts give them: UDT Chan
-- and a string of capacity 82, each alone in its tables.
use Rattle.std.specs.Prelude.{ℕ, List, [], ◌∷◌}
use Rattle.std.proofs.Math.Option.{Option, none, some}
use Rattle.types.specs.atomics.Atomic.{atomic_at}
use Rattle.types.specs.cases.Layouts.{bool, declared_as, parts_if, size_if, udt}
use Rattle.types.specs.layout.HostNames.{host_name}
use Rattle.types.specs.layout.Placing.{align_up}
use Rattle.types.specs.layout.Structs.{rows_of, string_parts, string_size}
use Rattle.types.specs.tables.Defs.{Def}
use Rattle.types.specs.tables.Lent.{bit_of_word, kind_of_word, member_at, member_row, ty_of_word, type_at, type_row}
use Rattle.types.specs.tables.Registry.{member_rows, type_rows}
use Rattle.types.specs.declared.atomics.atomic.Atomic.TheVariants.{Int}
use Rattle.types.specs.declared.layout.placing.Decl.{Decl}
use Rattle.types.specs.declared.tables.member.StructKind.TheVariants.{Udt, Str}
use Rattle.values.specs.reading.Trees.{KnownStruct, known_in, members_at}

-- Good BOOL, Live BOOL, Level INT
abbrev chan_decls : List Decl
chan_decls = bool ∷ bool ∷ declared_as Int 0 ∷ []

-- a layout that is not refused has a size
abbrev or_zero : Option ℕ → ℕ
or_zero (some n) = n
or_zero none = 0

-- UDT Chan; values ask for no name, id or handle
unfoldable pub chan_def : Def
unfolding udt
chan_def =
    record {
      name = 67 ∷ 104 ∷ 97 ∷ 110 ∷ [];
      id = 0x100;
      handle = 0;
      size = or_zero (size_if (udt chan_decls));
      kind = Udt;
      parts = parts_if (udt chan_decls);
    }

-- STRING
unfoldable pub string82_def : Def
unfolding string_parts string_size align_up
string82_def =
    record {
      name = 83 ∷ 84 ∷ 82 ∷ 73 ∷ 78 ∷ 71 ∷ [];
      id = 4;
      handle = 0;
      size = string_size 82;
      kind = Str;
      parts = string_parts 82;
    }

-- the rows of one type and of its members
unfoldable pub types_of : Def → List ℕ
unfolding type_rows type_row
types_of d = type_rows 0 0 (d ∷ [])

unfoldable pub members_of : Def → List ℕ
unfolding member_rows rows_of member_row host_name
members_of d = member_rows 0 (d ∷ [])

-- what values ask of the type, read from its rows
unfoldable pub known_of : Def → ℕ → KnownStruct
unfolding known_in members_at member_at type_at ty_of_word bit_of_word kind_of_word atomic_at types_of members_of
    chan_def string82_def
known_of d i = known_in (types_of d) (members_of d) i
