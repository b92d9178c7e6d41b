-- Adding a type in the tables (document 01, "Refusal numbers"): what it asks of them, what it answers, and what they
-- hold afterwards.
use Rattle.std.specs.Prelude.{ℕ, ◌+◌, ◌*◌, ◌≤◌, ◌<◌, List, ◌≡◌, length, get_or, Result}
use Rattle.std.proofs.lemmas.List.Edits.{sets}
use Rattle.types.specs.adding.Add.{Verdict, no, yes}
use Rattle.types.specs.adding.Ids.{id_word}
use Rattle.types.specs.inside.adding.Checks.{EntriesInside}
use Rattle.types.specs.inside.atomics.Lookup.{NamesInside}
use Rattle.types.specs.inside.tables.Registry.{used_more}
use Rattle.types.specs.layout.Laid.{Earlier}
use Rattle.types.specs.layout.Structs.{rows_of}
use Rattle.types.specs.refusals.Said.{Said, done, refused, said_by}
use Rattle.types.specs.tables.Lent.{type_row, ty_of_word}
use Rattle.types.specs.tables.Limits.{most_types, most_members, most_names, member_words}
use Rattle.types.specs.tables.Registry.{own_names, head_of}
use Rattle.types.specs.declared.adding.used.Used.{Used}
use Rattle.types.specs.declared.refusals.refusal.Refusal.{Refusal}

-- ---- what the tables hold afterwards

-- a type is refused, or was added, and so much is used then
abbrev pub said_after : Verdict → Used → Said Used
said_after (no r) u = refused r.0 r.1
said_after (yes d) u = done (used_more u d)

abbrev pub types_after : Verdict → Used → List ℕ → List ℕ
types_after (no r) u t = t
types_after (yes d) u t = sets t (8 * u.types) (type_row (head_of u.bytes u.members d))

abbrev pub members_after : Verdict → Used → List ℕ → List ℕ
members_after (no r) u t = t
members_after (yes d) u t = sets t (8 * u.members) (rows_of (u.bytes + length d.name) d.parts)

abbrev pub names_after : Verdict → Used → List ℕ → List ℕ
names_after (no r) u t = t
names_after (yes d) u t = sets t u.bytes (own_names d)

-- a verdict was carried out: the answer, and the three tables
pub record Took (s : Verdict) (u : Used) (t₀ m₀ n₀ t m n : List ℕ) (r : Result Used Refusal) : Type 0 where
  pub is : said_by r ≡ said_after s u
  pub types : t ≡ types_after s u t₀
  pub members : m ≡ members_after s u m₀
  pub names : n ≡ names_after s u n₀

-- ---- what adding asks

-- what our own calls leave: so much is used, the names of the types lie among the names, their ids are u16
pub record Usable (types names : List ℕ) (u : Used) : Type 0 where
  pub rows : NamesInside types names u.types
  pub members : u.members ≤ most_members
  pub bytes : u.bytes ≤ most_names
  pub ids : (k : ℕ) → k < u.types → id_word types k < 65536

-- and the declared members of a type, resolved: their entries and names lie in the book, their types are earlier ones
pub record Declared (book tys : List ℕ) (known at n : ℕ) : Type 0 where
  pub inside : EntriesInside book at n
  pub few : n ≤ 65536
  pub room : n ≤ length tys
  pub earlier : (k : ℕ) → k < n → Earlier known (ty_of_word (get_or tys k 0))

-- all of it, with tables of their length
pub record AddableEntry (types members names book tys : List ℕ) (u : Used) (at n : ℕ) : Type 0 where
  pub usable : Usable types names u
  pub declared : Declared book tys u.types at n
  pub rows : length members ≡ member_words
  pub bytes : length names ≡ most_names

-- the same without members, for a string
pub record AddableString (types members names name : List ℕ) (u : Used) : Type 0 where
  pub usable : Usable types names u
  pub long : length name ≤ 40
  pub rows : length members ≡ member_words
  pub bytes : length names ≡ most_names

-- and with a name that meets the rule's length
pub record Addable (types members names book tys name : List ℕ) (u : Used) (at n : ℕ) : Type 0 where
  pub usable : Usable types names u
  pub declared : Declared book tys u.types at n
  pub long : length name ≤ 40
  pub rows : length members ≡ member_words
  pub bytes : length names ≡ most_names

-- what our own calls leave, with room for a type of so many members and bytes of names
pub record Ready (t m n : List ℕ) (u : Used) (parts long : ℕ) : Type 0 where
  pub usable : Usable t n u
  pub members : length m ≡ member_words
  pub names : length n ≡ most_names
  pub few : u.types < most_types
  pub rows : u.members + parts ≤ most_members
  pub bytes : u.bytes + long ≤ most_names
