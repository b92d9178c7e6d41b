-- The check of members as the code makes it (document 01, "Refusal numbers": per member 2, 8, 9): each name that came
-- before has left its mark, so that only names with a mark that was seen are compared.
use Rattle.std.specs.Prelude.{ℕ, zero, suc, ◌+◌, ◌*◌, ◌%◌, ◌<◌, ◌≤◌, Bool, List, [], ◌∷◌, ◌≡◌, length, get_or}
use Rattle.std.specs.Prelude.{Result, Ok}
use Rattle.types.specs.declared.adding.checks.MemberFault.{MemberFault}
use Rattle.types.specs.adding.Checks.{entry_of, among, checked}
use Rattle.types.specs.book.Names.{lower_of}
use Rattle.types.specs.tables.Defs.{name_in}

-- .. its name ..
abbrev pub member_name : List ℕ → ℕ → ℕ → List ℕ
member_name book at j = name_in book (entry_of book at j).name

-- what a book that is well formed gives: n entries and their names lie in it
pub record EntriesInside (book : List ℕ) (at n : ℕ) : Type 0 where
  pub inside : at + 16 * n ≤ length book
  pub names : (k : ℕ) → k < n → (entry_of book at k).name.at + (entry_of book at k).name.long ≤ length book

-- ---- the filter

-- the names of the first j members, the last first
unfoldable pub names_before : (ℕ → List ℕ) → ℕ → List (List ℕ)
names_before names zero = []
names_before names (suc j) = names j ∷ names_before names j

-- a name's mark, the same for names that are the same; by 327 names that end in numbers have few marks in common
unfoldable pub mark_from : ℕ → List ℕ → ℕ
mark_from h [] = h
mark_from h (b ∷ bs) = mark_from ((h * 327 + lower_of b) % 16384) bs

abbrev pub mark_of : List ℕ → ℕ
mark_of s = mark_from 0 s

pub record Marked (s : List ℕ) (r : ℕ) : Type 0 where
  pub is : r ≡ mark_of s
  pub small : r < 16384

-- the marks of the first j names are set
pub record Marks (seen : List ℕ) (names : ℕ → List ℕ) (j : ℕ) : Type 0 where
  pub long : length seen ≡ 16384
  pub marked : (k : ℕ) → k < j → get_or seen (mark_of (names k)) 0 ≡ 0 → ⊥

-- the j-th member's name was looked up among those before, and its mark is set
pub record Looked (book : List ℕ) (at j : ℕ) (seen : List ℕ) (r : Bool) : Type 0 where
  pub is : r ≡ among (member_name book at j) (names_before (member_name book at) j)
  pub marks : Marks seen (member_name book at) (j + 1)

-- the j-th member was checked, and its mark is set where it is good
pub record CheckedOne (book : List ℕ) (aoi : Bool) (at j : ℕ) (seen : List ℕ)
    (r : Result (Unit {0}) MemberFault) : Type 0 where
  pub is : r ≡ checked book aoi (names_before (member_name book at) j) (entry_of book at j ∷ [])
  pub marks : r ≡ Ok tt → Marks seen (member_name book at) (j + 1)
