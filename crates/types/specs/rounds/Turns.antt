-- One type's turn in a round (document 01, "Order of building"): it waits until all its member types are known, then it
-- is added or refused; and the rounds over a book's types.
use Rattle.std.specs.Prelude.{ℕ, zero, suc, ◌+◌, ◌*◌, Bool, List, [], ◌∷◌, ◌++◌, Option, Some, None}
use Rattle.types.specs.adding.Add.{Verdict, no as against, yes as for, add_to}
use Rattle.types.specs.adding.Checks.{entries_from}
use Rattle.types.specs.atomics.Lookup.{type_among}
use Rattle.types.specs.book.Contents.{types_in, type_entry, list_from, sum_counts}
use Rattle.types.specs.book.Decls.{declared}
use Rattle.types.specs.refusals.Said.{Why}
use Rattle.types.specs.rounds.Order.{all_known}
use Rattle.types.specs.rounds.Resolve.{type_names, has_name}
use Rattle.types.specs.rounds.Rounds.{Step, no, ok, Answer, rounds}
use Rattle.types.specs.tables.Defs.{Def, name_in}
use Rattle.types.specs.tables.Registry.{View, size_at, view_of}
use Rattle.types.specs.declared.book.contents.MemberEntry.{MemberEntry}
use Rattle.types.specs.declared.layout.placing.Decl.{Decl}
use Rattle.types.specs.declared.tables.member.Ty.{Ty}

-- ---- one type of the book

-- members belong to types in order: the first of type i, and the place of its entry
unfoldable pub first_member : List ℕ → ℕ → ℕ
first_member book i = sum_counts (list_from (type_entry book) 0 i)

unfoldable pub entries_at : List ℕ → ℕ → ℕ
entries_at book i = 4 + 16 * types_in book + 16 * first_member book i

abbrev pub count_of : List ℕ → ℕ → ℕ
count_of book i = (type_entry book i).count

-- the names of its member types
unfoldable pub uses_of : List ℕ → ℕ → List (List ℕ)
uses_of book i = type_names book (entries_at book i) 0 (count_of book i)

-- its declared members, each of the type that was found for it
abbrev pub then_decl : Option Ty → (Ty → Decl) → List Decl → List Decl
then_decl (Some ty) f rest = f ty ∷ rest
then_decl None f rest = []

unfoldable pub decls_of : View → List ℕ → List MemberEntry → List Decl
decls_of v book [] = []
decls_of v book (e ∷ es) =
    then_decl (type_among v.names (name_in book e.ty)) (λ ty. declared (size_at v) ty e) (decls_of v book es)

-- ---- rounds

-- one is added when all its member types are known
unfoldable pub ready_in : List ℕ → List Def → ℕ → Bool
ready_in book ds i = all_known has_name (view_of ds).names (uses_of book i)

-- adding type i to those that were added
unfoldable pub verdict_on : List ℕ → View → ℕ → Verdict
verdict_on book v i =
    add_to v book i (entries_at book i) (decls_of v book (entries_from book (entries_at book i) 0 (count_of book i)))

abbrev pub step_of : Verdict → List Def → Step (List Def) Why
step_of (against r) ds = no r
step_of (for d) ds = ok (ds ++ d ∷ [])

unfoldable pub add_in : List ℕ → List Def → ℕ → Step (List Def) Why
add_in book ds i = step_of (verdict_on book (view_of ds) i) ds

-- the numbers from i on
unfoldable pub up_from : ℕ → ℕ → List ℕ
up_from i zero = []
up_from i (suc n) = i ∷ up_from (i + 1) n

-- a round that adds nothing
abbrev pub stuck_at : ℕ → Why
stuck_at p = (10, p)

unfoldable pub rounds_from : List ℕ → List Def → Answer (List Def) Why
rounds_from book ds =
    rounds stuck_at (ready_in book) (add_in book) (types_in book) ds (up_from 0 (types_in book))
