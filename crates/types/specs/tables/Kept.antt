-- The tables as our own calls left them (document 01, "What promises shut out"): all zero, or those of what a build
-- accepted of some book and some ids. A promise may assume this, and only this.
use Rattle.std.specs.Prelude.{ℕ, List, [], ◌≡◌}
use Rattle.words.specs.Words.{Bytes}
use Rattle.types.specs.rounds.Build.{build_of}
use Rattle.types.specs.rounds.Rounds.{accepted}
use Rattle.types.specs.tables.Defs.{Def}
use Rattle.types.specs.tables.Registry.{types_table, members_table, names_table}
use Rattle.types.specs.declared.layout.predefined.PredefinedIds.{PredefinedIds}
use Rattle.types.specs.declared.tables.lent.Tables.{Tables}

-- a registry that our own calls can leave
pub data Made (ds : List Def) : Type 0 where
  -- no types yet, or none after a refusal
  none : ds ≡ [] → Made ds
  -- what a build accepted, of some ids and some book
  built : (ids : PredefinedIds) (book : List ℕ) → Bytes book → build_of ids book ≡ accepted ds → Made ds

pub record Kept (types members names : List ℕ) : Type 0 where
  pub defs : List Def
  pub made : Made defs
  pub rows : types ≡ types_table defs
  pub parts : members ≡ members_table defs
  pub bytes : names ≡ names_table defs

-- the three of a program
abbrev pub KeptTables : Tables → Type 0
KeptTables t = Kept t.types t.members t.names

-- tables that are kept beside others: for a call that is lent no names, no members, or neither
pub record KeptRows (types members : List ℕ) : Type 0 where
  pub names : List ℕ
  pub kept : Kept types members names

pub record KeptNames (types names : List ℕ) : Type 0 where
  pub members : List ℕ
  pub kept : Kept types members names

pub record KeptTypes (types : List ℕ) : Type 0 where
  pub members : List ℕ
  pub names : List ℕ
  pub kept : Kept types members names
