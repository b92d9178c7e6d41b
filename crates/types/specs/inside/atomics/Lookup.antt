-- What a lookup asks of the tables' names (document 01, "Atomic types"), and what a search over the first types has
-- shown.
use Rattle.types.specs.declared.tables.member.Ty.{Ty}
use Rattle.std.specs.Prelude.{ℕ, ◌+◌, ◌<◌, ◌≤◌, false, List, [], ◌≡◌, length, get_or, Option, None}
use Rattle.types.specs.atomics.Atomic.{atomic_named}
use Rattle.types.specs.atomics.Lookup.{type_among, row_names}
use Rattle.types.specs.book.Names.{same_name}
use Rattle.types.specs.tables.Lent.{type_at}
use Rattle.types.specs.tables.Limits.{most_types}

abbrev pub type_of : List ℕ → List ℕ → ℕ → List ℕ → Option Ty
type_of types names n s = type_among (row_names types names n) s

-- ---- what the functions ask and find

-- a name is no atomic's, and none of the first n names is the same
pub record Unseen (known : List (List ℕ)) (s : List ℕ) (n : ℕ) : Type 0 where
  pub few : n ≤ length known
  pub plain : atomic_named s ≡ None
  pub other : (j : ℕ) → j < n → same_name (get_or known j []) s ≡ false

-- the names of the first n structures lie among the names
pub record NamesInside (types names : List ℕ) (n : ℕ) : Type 0 where
  pub few : n ≤ most_types
  pub inside : (i : ℕ) → i < n → (type_at types i).name.at + (type_at types i).name.long ≤ length names
