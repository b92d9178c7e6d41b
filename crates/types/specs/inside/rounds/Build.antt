-- The rounds in the tables (document 01, "Order of building"): the flags of the types that wait, the scratch, and what
-- the rounds ask.
use Rattle.std.specs.Prelude.{ℕ, zero, suc, ◌+◌, ◌<◌, ◌≤◌, true, cond, List, [], ◌∷◌, ◌≡◌, eqb, length, get_or}
use Rattle.types.specs.book.Contents.{types_in, members_in, book_ok}
use Rattle.types.specs.layout.Predefined.{predefined_ids}
use Rattle.types.specs.tables.Registry.{no_types, no_members, no_names}
use Rattle.types.specs.declared.layout.predefined.PredefinedIds.{PredefinedIds}

-- the types that wait by their flags, n of them from the i-th on
unfoldable pub waits : List ℕ → ℕ → ℕ → List ℕ
waits f i zero = []
waits f i (suc n) = cond (eqb (get_or f i 0) 0) (i ∷ waits f (i + 1) n) (waits f (i + 1) n)

-- the first of them, 0 where none waits
pub record FirstWaits (f : List ℕ) (t r : ℕ) : Type 0 where
  pub is : r ≡ get_or (waits f 0 t) 0 0
  pub small : r < t + 1

-- tables of no types
pub record Cleared (t m n : List ℕ) : Type 0 where
  pub types : t ≡ no_types
  pub members : m ≡ no_members
  pub names : n ≡ no_names

-- a good book has at most so many types and members
pub record AtMost (book : List ℕ) (t m : ℕ) : Type 0 where
  pub types : book_ok book ≡ true → types_in book ≤ t
  pub members : book_ok book ≡ true → members_in book ≤ m

-- a scratch for the found types of a type's members; a flag for each type, all unset; the member whose type was not
-- found, and among how many types, 0 of them; all are long enough
pub record Scratch (book tys done stuck tried : List ℕ) : Type 0 where
  pub room : book_ok book ≡ true → members_in book ≤ length tys
  pub flags : book_ok book ≡ true → types_in book ≤ length done
  pub unset : (k : ℕ) → get_or done k 0 ≡ 0
  pub members : book_ok book ≡ true → types_in book ≤ length stuck
  pub rows : book_ok book ≡ true → types_in book ≤ length tried
  pub untried : (k : ℕ) → get_or tried k 0 ≡ 0

-- what the rounds ask: a good book of t types, good ids, tables of no types, and a scratch
pub record RunIn (book : List ℕ) (t : ℕ) (ids : PredefinedIds)
    (types members names tys done stuck tried : List ℕ) : Type 0 where
  pub okay : book_ok book ≡ true
  pub is : t ≡ types_in book
  pub allowed : predefined_ids ids ≡ true
  pub cleared : Cleared types members names
  pub scratch : Scratch book tys done stuck tried
