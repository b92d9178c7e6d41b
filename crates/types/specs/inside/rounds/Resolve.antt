-- Member types looked up in the tables (document 01, "Order of building"): the word of each that was found, and which
-- types a search may pass over.
use Rattle.types.specs.declared.tables.member.Ty.{Ty}
use Rattle.std.specs.Prelude.{ℕ, ◌+◌, ◌*◌, ◌<◌, ◌≤◌, List, [], ◌∷◌, ◌≡◌, length, Option, Some, None}
use Rattle.std.proofs.lemmas.List.Edits.{sets}
use Rattle.types.specs.adding.Checks.{entry_of}
use Rattle.types.specs.atomics.Lookup.{type_among, row_names}
use Rattle.types.specs.inside.atomics.Lookup.{NamesInside, Unseen}
use Rattle.types.specs.rounds.Resolve.{type_name}
use Rattle.types.specs.tables.Lent.{ty_word}

-- the words of the types with these names, up to the first that is not known
abbrev pub then_word : Option Ty → List ℕ → List ℕ
then_word (Some ty) rest = ty_word ty ∷ rest
then_word None rest = []

unfoldable pub found_words : List (List ℕ) → List (List ℕ) → List ℕ
found_words known [] = []
found_words known (s ∷ ss) = then_word (type_among known s) (found_words known ss)

-- the words stand in a scratch from its start on, and their number is answered
pub record Resolves (known names : List (List ℕ)) (tys₀ tys : List ℕ) (r : ℕ) : Type 0 where
  pub is : r ≡ length (found_words known names)
  pub words : tys ≡ sets tys₀ 0 (found_words known names)

-- n entries lie in the book from a place on, with their type names, and the scratch has room for their words
pub record Resolvable (types names book tys : List ℕ) (known at n : ℕ) : Type 0 where
  pub rows : NamesInside types names known
  pub inside : at + 16 * n ≤ length book
  pub uses : (k : ℕ) → k < n
      → (entry_of book at k).ty.at + (entry_of book at k).ty.long ≤ length book
  pub room : n ≤ length tys

-- ---- a search that goes on

-- where `from` is not 0, the k-th entry lies in the book with its type name, and that was not among the first `from`
pub record StillIn (types names book : List ℕ) (at k from n : ℕ) : Type 0 where
  pub rows : NamesInside types names n
  pub inside : (from ≡ 0 → ⊥) → at + 16 * k + 16 ≤ length book
  pub uses : (from ≡ 0 → ⊥) → (entry_of book at k).ty.at + (entry_of book at k).ty.long ≤ length book
  pub unseen : (from ≡ 0 → ⊥) → Unseen (row_names types names n) (type_name book at k) from

-- it is not among the first n either
pub record Still (types names book : List ℕ) (at k from n : ℕ) : Type 0 where
  pub past : from ≡ 0 → ⊥
  pub missing : type_among (row_names types names n) (type_name book at k) ≡ None
