-- A structure whose name, rows and members' names lie in the tables, so that it can be read (document 01, "Declaration
-- book": the tables).
use Rattle.std.specs.Prelude.{ℕ, ◌+◌, ◌<◌, ◌≤◌, List}
use Rattle.types.specs.inside.tables.Lent.{TyFits}
use Rattle.types.specs.tables.Lent.{member_at, name_at}
use Rattle.types.specs.tables.Limits.{most_members, most_names}
use Rattle.types.specs.declared.tables.member.StructDef.{StructDef}

-- what a reader of a structure's rows may count on: its rows, its name and its members' names lie inside the tables
pub record Readable (members : List ℕ) (d : StructDef) : Type 0 where
  pub name : d.name.at + d.name.long ≤ most_names
  pub rows : d.first + d.count ≤ most_members
  pub names : (k : ℕ) → k < d.count → (name_at members (d.first + k)).at + (name_at members (d.first + k)).long
      ≤ most_names
  pub types : (k : ℕ) → k < d.count → TyFits (member_at members (d.first + k)).ty
