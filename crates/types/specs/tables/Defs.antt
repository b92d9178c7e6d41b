-- A structure with everything that a caller may ask of it, and the structure that the tables hold at a row: its name
-- and the names of its members as bytes, its members as values.
use Rattle.std.specs.Prelude.{ℕ, zero, suc, ◌+◌, List, [], ◌∷◌}
use Rattle.words.specs.Words.{part}
use Rattle.types.specs.tables.Lent.{member_at, name_at}
use Rattle.types.specs.declared.tables.member.Member.{Member}
use Rattle.types.specs.declared.tables.member.Span.{Span}
use Rattle.types.specs.declared.tables.member.StructDef.{StructDef}
use Rattle.types.specs.declared.tables.member.StructKind.{StructKind}

-- a member with its name
pub record Part : Type 0 where
  pub name : List ℕ
  pub member : Member

-- a structure with its parts, the hidden ones among them
pub record Def : Type 0 where
  pub name : List ℕ
  pub id : ℕ
  pub handle : ℕ
  pub size : ℕ
  pub kind : StructKind
  pub parts : List Part

-- the bytes of a name
abbrev pub name_in : List ℕ → Span → List ℕ
name_in names s = part names s.at s.long

unfoldable pub part_at : List ℕ → List ℕ → ℕ → Part
part_at members names row = record { name = name_in names (name_at members row); member = member_at members row }

-- the n parts from a row on
unfoldable pub parts_at : List ℕ → List ℕ → ℕ → ℕ → List Part
parts_at members names row zero = []
parts_at members names row (suc n) = part_at members names row ∷ parts_at members names (row + 1) n

-- the structure that a type's row stands for
unfoldable pub def_of : List ℕ → List ℕ → StructDef → Def
def_of members names d =
    record {
      name = name_in names d.name;
      id = d.id;
      handle = d.handle;
      size = d.size;
      kind = d.kind;
      parts = parts_at members names d.first d.count;
    }
