-- Adding one type of the book (document 01, "Refusal numbers"): 2, 3, 4, 5, 6, 7; per member 2, 8, 9; layout per member
-- 11, 12; then 13; else the new type.
use Rattle.std.specs.Prelude.{ℕ, ◌+◌, ◌-◌, Bool, cond, not, ◌&&◌, List, [], eqb, leb, ltb, length}
use Rattle.std.specs.Prelude.{Result, Ok, Err}
use Rattle.types.specs.adding.Checks.{checked, entries_from, member_number}
use Rattle.types.specs.adding.Ids.{id_for, id_number}
use Rattle.types.specs.atomics.Lookup.{type_among}
use Rattle.types.specs.book.Contents.{is_aoi, is_string, has_id, type_entry}
use Rattle.types.specs.book.Names.{good_name}
use Rattle.types.specs.layout.Placing.{most_size}
use Rattle.types.specs.layout.Structs.{named_in, LaidOut, laid, stopped, rounded_size, layout_of, laid_kind}
use Rattle.types.specs.layout.Structs.{string_parts, string_size}
use Rattle.types.specs.refusals.Said.{Why}
use Rattle.types.specs.rounds.Resolve.{is_found}
use Rattle.types.specs.tables.Defs.{Part, Def, name_in}
use Rattle.types.specs.tables.Limits.{most_types, most_members, most_names}
use Rattle.types.specs.tables.Registry.{View, id_at, own_names}
use Rattle.types.specs.templates.Handle.{handle_of}
use Rattle.types.specs.templates.Template.{template_of}
use Rattle.types.specs.declared.adding.checks.MemberFault.{MemberFault}
use Rattle.types.specs.declared.adding.ids.IdFault.{IdFault}
use Rattle.types.specs.declared.adding.used.Used.{Used}
use Rattle.types.specs.declared.book.contents.TypeEntry.{TypeEntry}
use Rattle.types.specs.declared.layout.placing.Decl.{Decl}
use Rattle.types.specs.declared.tables.member.StructKind.{StructKind}
use Rattle.types.specs.declared.tables.member.StructKind.TheVariants.{Str}

-- the verdict on one type
pub data Verdict : Type 0 where
  -- it is refused
  no : Why → Verdict
  -- the new type
  yes : Def → Verdict

-- ---- 13, or the new type

-- the tables hold 200 types, 2,000 members and 32,768 bytes of names; so much is used, and so much is asked for
unfoldable pub room_in_tables : Used → ℕ → ℕ → Bool
room_in_tables u members bytes =
    ltb u.types most_types && leb (u.members + members) most_members && leb (u.bytes + bytes) most_names

abbrev pub used_in : View → Used
used_in v = record { types = length v.names; members = v.members; bytes = v.bytes }

-- a type with its handle, which its template gives
unfoldable pub new_def : View → List ℕ → ℕ → ℕ → StructKind → List Part → Def
new_def v name id size kind parts =
    record {
      name = name;
      id = id;
      handle =
          handle_of
          (template_of (id_at v)
          (record { name = name; id = id; handle = 0; size = size; kind = kind; parts = parts }));
      size = size;
      kind = kind;
      parts = parts;
    }

unfoldable pub fitted : View → ℕ → Def → Verdict
fitted v i d = cond (room_in_tables (used_in v) (length d.parts) (length (own_names d))) (yes d) (no (13, i))

-- ---- 11, 12

abbrev pub on_laid : LaidOut → ℕ → (List Part → ℕ → Verdict) → Verdict
on_laid (laid parts c) i k = k parts (rounded_size c)
on_laid (stopped number) i k = no (number, i)

unfoldable pub add_laid : View → List ℕ → ℕ → Bool → List ℕ → ℕ → List Decl → Verdict
add_laid v book i aoi name id ds =
    on_laid (layout_of aoi (named_in book) name ds) i
    (λ parts size. fitted v i (new_def v name id size (laid_kind aoi) parts))

-- ---- per member 2, 8, 9

abbrev pub on_checked : Result (Unit {0}) MemberFault → ℕ → Verdict → Verdict
on_checked (Ok tt) i k = k
on_checked (Err f) i k = no (member_number f, i)

-- the entries of n members begin at a place; all are checked, then they are laid out
unfoldable pub add_members : View → List ℕ → ℕ → ℕ → ℕ → Bool → List ℕ → ℕ → List Decl → Verdict
add_members v book i at n aoi name id ds =
    on_checked (checked book aoi [] (entries_from book at 0 n)) i (add_laid v book i aoi name id ds)

-- ---- 7

-- a string has a length from 1 to 2^26 - 4, no members, and is no AOI
unfoldable pub string_ok : TypeEntry → Bool
string_ok e = leb 1 e.string && leb e.string (most_size - 4) && eqb e.count 0 && not (is_aoi e)

unfoldable pub add_string : View → ℕ → TypeEntry → List ℕ → ℕ → Verdict
add_string v i e name id =
    cond (string_ok e) (fitted v i (new_def v name id (string_size e.string) Str (string_parts e.string)))
    (no (7, i))

unfoldable pub add_named : View → List ℕ → ℕ → ℕ → TypeEntry → List ℕ → ℕ → List Decl → Verdict
add_named v book i at e name id ds =
    cond (is_string e) (add_string v i e name id) (add_members v book i at e.count (is_aoi e) name id ds)

-- ---- 4, 5, 6

abbrev pub on_id : Result ℕ IdFault → ℕ → (ℕ → Verdict) → Verdict
on_id (Ok id) i k = k id
on_id (Err f) i k = no (id_number f, i)

unfoldable pub add_fresh : View → List ℕ → ℕ → ℕ → TypeEntry → List ℕ → List Decl → Verdict
add_fresh v book i at e name ds =
    on_id (id_for v.ids (has_id e) e.id) i (λ id. add_named v book i at e name id ds)

-- ---- 2, 3

unfoldable pub add_entry : View → List ℕ → ℕ → ℕ → TypeEntry → List ℕ → List Decl → Verdict
add_entry v book i at e name ds =
    cond (good_name name)
    (cond (is_found (type_among v.names name)) (no (3, i)) (add_fresh v book i at e name ds))
    (no (2, i))

-- the i-th type of the book, whose members' entries begin at a place and were resolved
abbrev pub add_to : View → List ℕ → ℕ → ℕ → List Decl → Verdict
add_to v book i at ds = add_entry v book i at (type_entry book i) (name_in book (type_entry book i).name) ds
