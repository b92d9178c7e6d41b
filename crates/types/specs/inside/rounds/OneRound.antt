-- One round in code (document 01, "Order of building"): what it asks of the tables and of the scratch, and what it
-- leaves in them.
use Rattle.std.specs.Prelude.{ℕ, ◌≤◌, true, List, ◌≡◌, length, Result, Ok, Err}
use Rattle.types.specs.atomics.Lookup.{row_names}
use Rattle.types.specs.book.Contents.{types_in, members_in, book_ok}
use Rattle.types.specs.inside.rounds.Build.{waits}
use Rattle.types.specs.inside.rounds.Turns.{Tries}
use Rattle.types.specs.inside.tables.Registry.{Stands}
use Rattle.types.specs.layout.Predefined.{predefined_ids, predefined}
use Rattle.types.specs.refusals.Said.{Why, why_of}
use Rattle.types.specs.rounds.Rounds.{ok, Out, stop, went, round}
use Rattle.types.specs.rounds.Turns.{ready_in, add_in, stuck_at}
use Rattle.types.specs.tables.Defs.{Def}
use Rattle.types.specs.declared.adding.used.Used.{Used}
use Rattle.types.specs.declared.layout.predefined.PredefinedIds.{PredefinedIds}
use Rattle.types.specs.declared.refusals.refusal.Refusal.{Refusal}

-- one round over the types of a book that wait
abbrev pub round_in : List ℕ → List Def → List ℕ → Out (List Def) Why
round_in book ds ws = round stuck_at (ready_in book) (add_in book) ds ws

-- a registry that rounds over a book can reach
pub data Reached (book : List ℕ) : List Def → Type 0 where
  -- the predefined types, under good ids
  first : (ids : PredefinedIds) → predefined_ids ids ≡ true → Reached book (predefined ids)
  -- and then a type of the book more
  more : (ds ds' : List Def) (i : ℕ) → Reached book ds → add_in book ds i ≡ ok ds' → Reached book ds'

-- what a round asks: a good book of t types; tables of a registry that rounds reach, of which so much is used; a flag
-- for each type, by which so many wait; a scratch for a type's members, and what is known of earlier turns
pub record RoundIn (book : List ℕ) (t : ℕ) (u : Used) (left : ℕ)
    (types members names tys done stuck tried : List ℕ) : Type 0 where
  pub okay : book_ok book ≡ true
  pub is : t ≡ types_in book
  pub defs : List Def
  pub reached : Reached book defs
  pub stands : Stands defs types members names u
  pub flags : t ≤ length done
  pub count : left ≡ length (waits done 0 t)
  pub room : members_in book ≤ length tys
  pub tries : Tries book (row_names types names u.types) stuck tried

-- what a round leaves that refused no type: the tables of the registry after it, flags of the types that still wait
pub record RoundGoes (book : List ℕ) (t : ℕ) (o : Out (List Def) Why) (types members names done stuck tried : List ℕ)
    (u : Used) (left : ℕ) : Type 0 where
  pub defs : List Def
  pub is : o ≡ went defs (waits done 0 t)
  pub stands : Stands defs types members names u
  pub count : left ≡ length (waits done 0 t)
  pub tries : Tries book (row_names types names u.types) stuck tried

-- a round was made: the refusal of the definition, or its registry
module _ (book : List ℕ) (t : ℕ) (o : Out (List Def) Why) (types members names done stuck tried : List ℕ) where
  abbrev pub Leaves : Result (Used × ℕ) Refusal → Type 0
  Leaves (Err x) = o ≡ stop (why_of x)
  Leaves (Ok p) = RoundGoes book t o types members names done stuck tried p.0 p.1

-- so for any registry that stood in the tables before, and the flags of that time
pub record RoundMade (book : List ℕ) (t : ℕ) (u : Used) (types₀ members₀ names₀ done₀ : List ℕ)
    (types members names done stuck tried : List ℕ) (r : Result (Used × ℕ) Refusal) : Type 0 where
  pub each : (ds : List Def) → Reached book ds → Stands ds types₀ members₀ names₀ u
      → Leaves book t (round_in book ds (waits done₀ 0 t)) types members names done stuck tried r
