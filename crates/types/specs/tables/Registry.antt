-- The registry: the types that were added so far, in order, and the tables that hold them (document 01, "Declaration
-- book": the tables; "Order of building"). Each type takes the next row, its members the next rows, its name and
-- theirs the next bytes.
use Rattle.std.specs.Prelude.{ℕ, zero, suc, ◌+◌, cond, List, [], ◌∷◌, ◌++◌, map, eqb, length, get_or, replicate}
use Rattle.std.proofs.lemmas.List.Edits.{sets}
use Rattle.types.specs.adding.Ids.{id_word}
use Rattle.types.specs.layout.Structs.{names_of, rows_of}
use Rattle.types.specs.tables.Defs.{Def}
use Rattle.types.specs.tables.Lent.{type_row}
use Rattle.types.specs.tables.Limits.{most_types, most_names, type_words, member_words}
use Rattle.types.specs.declared.tables.member.StructDef.{StructDef}

-- what adding a type asks of those before it: their names, ids and sizes by their numbers, and how many members and
-- bytes of names they have
pub record View : Type 0 where
  pub names : List (List ℕ)
  pub ids : List ℕ
  pub sizes : List ℕ
  pub members : ℕ
  pub bytes : ℕ

abbrev pub id_at : View → ℕ → ℕ
id_at v n = get_or v.ids n 0

abbrev pub size_at : View → ℕ → ℕ
size_at v n = get_or v.sizes n 0

-- a type's names: its own, then its members'
abbrev pub own_names : Def → List ℕ
own_names d = d.name ++ names_of d.parts

unfoldable pub members_of : List Def → ℕ
members_of [] = 0
members_of (d ∷ ds) = length d.parts + members_of ds

unfoldable pub name_bytes_of : List Def → List ℕ
name_bytes_of [] = []
name_bytes_of (d ∷ ds) = own_names d ++ name_bytes_of ds

-- what a registry shows
unfoldable pub view_of : List Def → View
view_of ds =
    record {
      names = map (λ d. d.name) ds;
      ids = map (λ d. d.id) ds;
      sizes = map (λ d. d.size) ds;
      members = members_of ds;
      bytes = length (name_bytes_of ds);
    }

-- ---- the tables of a registry

-- a type's row, whose names begin at a place and whose members begin at a row
abbrev pub head_of : ℕ → ℕ → Def → StructDef
head_of at row d =
    record {
      name = record { at = at; long = length d.name };
      id = d.id;
      handle = d.handle;
      size = d.size;
      kind = d.kind;
      first = row;
      count = length d.parts;
    }

unfoldable pub type_rows : ℕ → ℕ → List Def → List ℕ
type_rows at row [] = []
type_rows at row (d ∷ ds) =
    type_row (head_of at row d) ++ type_rows (at + length (own_names d)) (row + length d.parts) ds

unfoldable pub member_rows : ℕ → List Def → List ℕ
member_rows at [] = []
member_rows at (d ∷ ds) = rows_of (at + length d.name) d.parts ++ member_rows (at + length (own_names d)) ds

-- tables of zeros
unfoldable pub no_types : List ℕ
no_types = replicate type_words 0

unfoldable pub no_members : List ℕ
no_members = replicate member_words 0

unfoldable pub no_names : List ℕ
no_names = replicate most_names 0

unfoldable pub types_table : List Def → List ℕ
types_table ds = sets no_types 0 (type_rows 0 0 ds)

unfoldable pub members_table : List Def → List ℕ
members_table ds = sets no_members 0 (member_rows 0 ds)

unfoldable pub names_table : List Def → List ℕ
names_table ds = sets no_names 0 (name_bytes_of ds)

-- ---- how many types stand in a table: the first row whose template id is 0 is unused

unfoldable pub count_from : (ℕ → ℕ) → ℕ → ℕ → ℕ
count_from ids i zero = 0
count_from ids i (suc n) = cond (eqb (ids i) 0) 0 (suc (count_from ids (i + 1) n))

unfoldable pub type_count : List ℕ → ℕ
type_count types = count_from (id_word types) 0 most_types
