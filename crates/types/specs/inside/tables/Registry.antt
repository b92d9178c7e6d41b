-- How much of the tables a registry uses (document 01, "Declaration book": the tables; "Order of building"), what the
-- tables show of it, and a type's row before it has its handle.
use Rattle.std.specs.Prelude.{ℕ, ◌+◌, List, ◌≡◌, length}
use Rattle.types.specs.adding.Ids.{id_word}
use Rattle.types.specs.atomics.Lookup.{row_names}
use Rattle.types.specs.book.Contents.{list_from}
use Rattle.types.specs.tables.Defs.{Def}
use Rattle.types.specs.tables.Registry.{View, members_of, name_bytes_of, own_names, types_table, members_table}
use Rattle.types.specs.tables.Registry.{names_table}
use Rattle.types.specs.tables.Sizes.{sizes_in}
use Rattle.types.specs.declared.adding.used.Used.{Used}
use Rattle.types.specs.declared.tables.member.StructDef.{StructDef}
use Rattle.types.specs.declared.tables.member.StructKind.{StructKind}

-- what tables show of which so much is used
unfoldable pub view_in : List ℕ → List ℕ → Used → View
view_in types names u =
    record {
      names = row_names types names u.types;
      ids = list_from (id_word types) 0 u.types;
      sizes = list_from (sizes_in types) 0 u.types;
      members = u.members;
      bytes = u.bytes;
    }

-- ---- the tables of a registry

-- the row of a type after what is used, still without its handle
abbrev pub bare_head : Used → ℕ → ℕ → ℕ → StructKind → ℕ → StructDef
bare_head u long id size kind count =
    record {
      name = record { at = u.bytes; long = long };
      id = id;
      handle = 0;
      size = size;
      kind = kind;
      first = u.members;
      count = count;
    }

-- the same with a handle
abbrev pub with_handle : StructDef → ℕ → StructDef
with_handle h handle =
    record {
      name = h.name;
      id = h.id;
      handle = handle;
      size = h.size;
      kind = h.kind;
      first = h.first;
      count = h.count;
    }

-- how much of the tables a registry uses
abbrev pub used_by : List Def → Used
used_by ds = record { types = length ds; members = members_of ds; bytes = length (name_bytes_of ds) }

-- and with one type more
abbrev pub used_with : Used → ℕ → ℕ → Used
used_with u members bytes =
    record { types = u.types + 1; members = u.members + members; bytes = u.bytes + bytes }

abbrev pub used_more : Used → Def → Used
used_more u d = used_with u (length d.parts) (length (own_names d))

-- the tables are those of a registry, and so much of them is used
pub record Stands (ds : List Def) (t m n : List ℕ) (u : Used) : Type 0 where
  pub types : t ≡ types_table ds
  pub members : m ≡ members_table ds
  pub names : n ≡ names_table ds
  pub used : u ≡ used_by ds
