-- The declared members of a type as the code reads them from the book (document 01, "Declaration book"), with the words
-- of their types in a scratch.
use Rattle.std.specs.Prelude.{ℕ, zero, suc, ◌+◌, ◌*◌, ◌<◌, ◌≤◌, List, [], ◌∷◌, length, get_or}
use Rattle.types.specs.book.Contents.{member_entry_at}
use Rattle.types.specs.book.Decls.{declared}
use Rattle.types.specs.inside.tables.Lent.{TyFits}
use Rattle.types.specs.tables.Lent.{ty_of_word}
use Rattle.types.specs.tables.Sizes.{sizes_in}
use Rattle.types.specs.declared.layout.placing.Decl.{Decl}

-- a type's members stand one after the other from a place on; the type of the j-th is the j-th of those found
unfoldable pub decl_at : List ℕ → List ℕ → List ℕ → ℕ → ℕ → Decl
decl_at types book tys at j =
    declared (sizes_in types) (ty_of_word (get_or tys j 0)) (member_entry_at book (at + 16 * j))

-- n of them, from the j-th on
unfoldable pub decls_from : List ℕ → List ℕ → List ℕ → ℕ → ℕ → ℕ → List Decl
decls_from types book tys at j zero = []
decls_from types book tys at j (suc n) = decl_at types book tys at j ∷ decls_from types book tys at (j + 1) n

-- n entries lie in the book, and each of their types was found
pub record Found (book tys : List ℕ) (at n : ℕ) : Type 0 where
  pub inside : at + 16 * n ≤ length book
  pub known : n ≤ length tys
  pub types : (k : ℕ) → k < n → TyFits (ty_of_word (get_or tys k 0))
