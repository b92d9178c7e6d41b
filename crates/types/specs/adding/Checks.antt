-- What a declared type's members must meet before they are laid out (document 01, "Refusal numbers": per member 2, 8,
-- 9): the rule of names, no name twice, no local outside an AOI.
use Rattle.std.specs.Prelude.{ℕ, ◌+◌, ◌*◌, Bool, false, cond, not, ◌&&◌, ◌||◌, List, [], ◌∷◌, eqb}
use Rattle.std.specs.Prelude.{Result, Ok, Err}
use Rattle.types.specs.book.Contents.{member_entry_at, list_from}
use Rattle.types.specs.book.Names.{same_name, good_name}
use Rattle.types.specs.tables.Defs.{name_in}
use Rattle.types.specs.declared.adding.checks.MemberFault.{MemberFault}
use Rattle.types.specs.declared.adding.checks.MemberFault.TheVariants.{NameWrong, Twice, LocalOutside}
use Rattle.types.specs.declared.book.contents.MemberEntry.{MemberEntry}

-- a type's members stand one after the other from a place on: the j-th ..
abbrev pub entry_of : List ℕ → ℕ → ℕ → MemberEntry
entry_of book at j = member_entry_at book (at + 16 * j)

-- .. and n of them, from the j-th on
abbrev pub entries_from : List ℕ → ℕ → ℕ → ℕ → List MemberEntry
entries_from book at j n = list_from (entry_of book at) j n

-- a name stands among others, without ASCII case
unfoldable pub among : List ℕ → List (List ℕ) → Bool
among s [] = false
among s (x ∷ xs) = same_name x s || among s xs

-- a member's name is outside the rule (2), or is there twice (8), or the member is a local outside an AOI (9)
abbrev pub member_number : MemberFault → ℕ
member_number NameWrong = 2
member_number Twice = 8
member_number LocalOutside = 9

-- the first member that fails, and at it 2 before 8 before 9; `before` are the names of the members before
unfoldable pub checked : List ℕ → Bool → List (List ℕ) → List MemberEntry → Result (Unit {0}) MemberFault
checked book aoi before [] = Ok tt
checked book aoi before (e ∷ es) =
    cond (good_name (name_in book e.name))
    (cond (among (name_in book e.name) before) (Err Twice)
    (cond (eqb e.local 1 && not aoi) (Err LocalOutside) (checked book aoi (name_in book e.name ∷ before) es)))
    (Err NameWrong)
