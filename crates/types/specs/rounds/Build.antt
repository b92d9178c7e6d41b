-- Building (document 01, "Order of building"): the predefined ids (22), the book (1), the four predefined types, then
-- rounds over the waiting types in book order; and the tables afterwards.
use Rattle.std.specs.Prelude.{ℕ, cond, List, ◌≡◌, length, Result}
use Rattle.types.specs.declared.refusals.refusal.Refusal.{Refusal}
use Rattle.types.specs.book.Contents.{book_ok}
use Rattle.types.specs.layout.Predefined.{predefined_ids, predefined}
use Rattle.types.specs.refusals.Said.{Said, Why, done, why, said_by}
use Rattle.types.specs.refusals.Said as say
use Rattle.types.specs.rounds.Rounds.{Answer, refused, accepted}
use Rattle.types.specs.rounds.Turns.{rounds_from}
use Rattle.types.specs.tables.Defs.{Def}
use Rattle.types.specs.tables.Registry.{no_types, no_members, no_names, types_table, members_table, names_table}
use Rattle.types.specs.declared.layout.predefined.PredefinedIds.{PredefinedIds}

unfoldable pub build_of : PredefinedIds → List ℕ → Answer (List Def) Why
build_of ids book =
    cond (predefined_ids ids)
    (cond (book_ok book) (rounds_from book (predefined ids)) (refused (1, 0)))
    (refused (22, 0))

abbrev pub built_of : Answer (List Def) Why → Said ℕ
built_of (refused r) = say.refused r.0 r.1
built_of (accepted ds) = done (length ds)

-- after a refusal all three tables are zero
abbrev pub types_built : Answer (List Def) Why → List ℕ
types_built (refused r) = no_types
types_built (accepted ds) = types_table ds

abbrev pub members_built : Answer (List Def) Why → List ℕ
members_built (refused r) = no_members
members_built (accepted ds) = members_table ds

abbrev pub names_built : Answer (List Def) Why → List ℕ
names_built (refused r) = no_names
names_built (accepted ds) = names_table ds

-- a build ended: the answer, and the three tables
pub record Ended (a : Answer (List Def) Why) (t m n : List ℕ) (r : Result ℕ Refusal) : Type 0 where
  pub is : said_by r ≡ built_of a
  pub types : t ≡ types_built a
  pub members : m ≡ members_built a
  pub names : n ≡ names_built a
