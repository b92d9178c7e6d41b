-- The pieces of a template (document 01, "Template and handle") as the rows of the tables give them, and what a
-- function that sends some of them to a sink asks.
use Rattle.std.specs.Prelude.{ℕ, ◌^◌, ◌≤◌, List, [], ◌≡◌, length}
use Rattle.types.specs.inside.tables.Defs.{Readable}
use Rattle.types.specs.inside.templates.Sink.{SinkRoom}
use Rattle.types.specs.tables.Defs.{name_in, parts_at, def_of}
use Rattle.types.specs.tables.Limits.{most_names}
use Rattle.types.specs.tables.TypeWord.{ids_in}
use Rattle.types.specs.templates.Handle.{fold_from}
use Rattle.types.specs.templates.Template.{infos, shown_name, member_names, front_of}
use Rattle.types.specs.declared.tables.member.StructDef.{StructDef}
use Rattle.types.specs.declared.templates.sink.Sink.{Sink}

-- the infos of n rows from a row on: no name matters to them
abbrev pub infos_from : List ℕ → List ℕ → ℕ → ℕ → List ℕ
infos_from types members row n = infos (ids_in types) (parts_at members [] row n)

abbrev pub infos_in : List ℕ → List ℕ → StructDef → List ℕ
infos_in types members d = infos_from types members d.first d.count

abbrev pub shown_in : List ℕ → StructDef → List ℕ
shown_in names d = shown_name d.kind d.id (name_in names d.name)

-- the names of n rows from a row on, each with its 0
abbrev pub names_from : List ℕ → List ℕ → ℕ → ℕ → List ℕ
names_from members names row n = member_names (parts_at members names row n)

abbrev pub names_in : List ℕ → List ℕ → StructDef → List ℕ
names_in members names d = names_from members names d.first d.count

-- what every template has
abbrev pub front_in : List ℕ → List ℕ → List ℕ → StructDef → List ℕ
front_in types members names d = front_of (ids_in types) (def_of members names d)

-- the rows can be read, the table of names is whole, and the sink can take the bytes s
pub record Emittable (members names : List ℕ) (d : StructDef) (s : List ℕ) (k : Sink) (out : List ℕ) : Type 0 where
  pub rows : Readable members d
  pub table : length names ≡ most_names
  pub room : SinkRoom s k out

-- a sink that took the bytes s from the start on
pub record EmittedAll (s : List ℕ) (r : Sink) : Type 0 where
  pub at : r.at ≡ length s
  pub small : length s ≤ 2 ^ 31
  pub fold : r.fold ≡ fold_from 0x1D0F s
