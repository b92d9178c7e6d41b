-- A turn in the tables (document 01, "Order of building"): what it asks of them and of the book, what it leaves, and
-- what is remembered of a type that waits.
use Rattle.std.specs.Prelude.{ℕ, ◌+◌, ◌*◌, ◌<◌, ◌≤◌, Bool, true, false, List, ◌≡◌, length, get_or}
use Rattle.std.specs.Prelude.{Option, Some, None, Result, Ok, Err}
use Rattle.types.specs.adding.Add.{Verdict}
use Rattle.types.specs.adding.Checks.{entry_of}
use Rattle.types.specs.atomics.Lookup.{row_names}
use Rattle.types.specs.book.Contents.{types_in, type_entry}
use Rattle.types.specs.inside.adding.Add.{Took, Usable}
use Rattle.types.specs.inside.adding.Checks.{EntriesInside}
use Rattle.types.specs.inside.atomics.Lookup.{Unseen}
use Rattle.types.specs.rounds.Resolve.{type_name}
use Rattle.types.specs.rounds.Turns.{count_of, entries_at}
use Rattle.types.specs.tables.Limits.{most_names, member_words}
use Rattle.types.specs.declared.adding.used.Used.{Used}
use Rattle.types.specs.declared.refusals.refusal.Refusal.{Refusal}

-- the type of the k-th member of type i is not among the first n
pub record Missed (book : List ℕ) (known : List (List ℕ)) (i k n : ℕ) : Type 0 where
  pub below : k < count_of book i
  pub unseen : Unseen known (type_name book (entries_at book i) k) n

-- so for each type of a book by two scratches, of the k and of the n; an n of 0 says nothing
pub record Tries (book : List ℕ) (known : List (List ℕ)) (stuck tried : List ℕ) : Type 0 where
  pub members : types_in book ≤ length stuck
  pub rows : types_in book ≤ length tried
  pub missed : (i : ℕ) → i < types_in book → (get_or tried i 0 ≡ 0 → ⊥)
      → Missed book known i (get_or stuck i 0) (get_or tried i 0)

-- what a turn asks: what our own calls leave, type i and its members in the book, from a place on, and what is known
-- of earlier turns
pub record TurnIn (types members names book tys stuck tried : List ℕ) (i at : ℕ) (u : Used) : Type 0 where
  pub usable : Usable types names u
  pub rows : length members ≡ member_words
  pub bytes : length names ≡ most_names
  pub entry : 20 + 16 * i ≤ length book
  pub named : (type_entry book i).name.at + (type_entry book i).name.long ≤ length book
  pub inside : EntriesInside book at (count_of book i)
  pub uses : (k : ℕ) → k < count_of book i → (entry_of book at k).ty.at + (entry_of book at k).ty.long ≤ length book
  pub room : count_of book i ≤ length tys
  pub small : i < 65536
  pub among : i < types_in book
  pub place : at ≡ entries_at book i
  pub tries : Tries book (row_names types names u.types) stuck tried

-- what a turn answers of a type that does not wait
abbrev pub at_once : Result Used Refusal → Result (Option Used) Refusal
at_once (Ok u) = Ok (Some u)
at_once (Err x) = Err x

-- a turn was taken: a type that is not ready waits and nothing is stored, else the verdict is carried out
pub record Turned (ready : Bool) (s : Verdict) (u : Used) (t₀ m₀ n₀ t m n : List ℕ)
    (r : Result (Option Used) Refusal) : Type 0 where
  pub waits : ready ≡ false → (r ≡ Ok None) × ((t ≡ t₀) × ((m ≡ m₀) × (n ≡ n₀)))
  pub takes : ready ≡ true → (a : Result Used Refusal) × (r ≡ at_once a) × Took s u t₀ m₀ n₀ t m n a
