-- What twelve bytes say as the code tells it, by value (document 01, "Value stream"). That it is what
-- `entry_at` says is a law.
use Rattle.std.specs.Prelude.{ℕ, ◌/◌, ◌%◌, ◌^◌, true, false, cond, List, [], ◌∷◌, eqb, ltb, get_or, Option, Some, None}
use Rattle.values.specs.stream.Entry.{kind_at, payload_at, three_zeros}
use Rattle.values.specs.declared.stream.entry.Entry.{Entry}
use Rattle.values.specs.declared.stream.entry.Entry.TheVariants as entry

-- of an entry that has no payload
unfoldable pub bare_in : Entry → ℕ → Option Entry
bare_in e x = cond (eqb x 0) (Some e) None

unfoldable pub truth_in : ℕ → Option Entry
truth_in x = cond (eqb x 0) (Some (entry.Bool false)) (cond (eqb x 1) (Some (entry.Bool true)) None)

-- of an entry with a number of 32 bits
unfoldable pub low_in : (ℕ → Entry) → ℕ → Option Entry
low_in e x = cond (ltb x (2 ^ 32)) (Some (e x)) None

abbrev pub text_entry : ℕ → Option Entry
text_entry x = Some (entry.Text (x % 2 ^ 32) (x / 2 ^ 32))

-- by the kind, 0 to 11
abbrev pub payloads_in : ℕ → List (Option Entry)
payloads_in x =
    bare_in entry.Null x ∷ truth_in x ∷ Some (entry.Signed x) ∷ Some (entry.Unsigned x) ∷ low_in entry.Real x
    ∷ Some (entry.LReal x) ∷ text_entry x ∷ low_in entry.Member x ∷ bare_in entry.Open x ∷ bare_in entry.Close x
    ∷ bare_in entry.ArrayOpen x ∷ bare_in entry.ArrayClose x ∷ []

unfoldable pub loaded_of : ℕ → ℕ → Option Entry
loaded_of kind x = get_or (payloads_in x) kind None

-- of twelve bytes that are there
unfoldable pub entry_in : List ℕ → ℕ → Option Entry
entry_in s at = cond (three_zeros s at) (loaded_of (kind_at s at) (payload_at s at)) None
