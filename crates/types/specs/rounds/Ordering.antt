-- Orderings of a book (document 01, "Order of building"): all its types, each once, in an order in which every member
-- type is atomic, there at the start, as the predefined types are, or earlier.
use Rattle.std.specs.Prelude.{ℕ, List}
use Rattle.types.specs.book.Contents.{types_in, type_entry}
use Rattle.types.specs.rounds.Order.{Ordered, Same}
use Rattle.types.specs.rounds.Resolve.{has_name}
use Rattle.types.specs.rounds.Turns.{uses_of, up_from}
use Rattle.types.specs.tables.Defs.{Def, name_in}
use Rattle.types.specs.tables.Registry.{view_of}

-- the name of type i
abbrev pub type_named : List ℕ → ℕ → List ℕ
type_named book i = name_in book (type_entry book i).name

pub record Ordering (book : List ℕ) (start : List Def) (o : List ℕ) : Type 0 where
  pub same : Same o (up_from 0 (types_in book))
  pub ordered : Ordered has_name (type_named book) (uses_of book) (view_of start).names o
