-- Entries by value (document 01, "Value stream"): the number of each kind, its payload, its twelve bytes, and what
-- twelve bytes say.
use Rattle.std.specs.Prelude.{ℕ, ◌+◌, ◌*◌, ◌^◌, ◌<◌, true, false, cond, Bool, ◌&&◌, List, [], ◌∷◌, ◌≡◌, eqb, leb, ltb}
use Rattle.std.specs.Prelude.{Option, Some, None}
use Rattle.std.specs.Prelude.{get_or, length}
use Rattle.std.proofs.lemmas.List.Edits.{sets}
use Rattle.words.specs.Bits.{digit}
use Rattle.words.specs.Words.{word_at}
use Rattle.types.specs.refusals.Said.{Said, done, refused}
use Rattle.values.specs.stream.Stream.{entry_bytes}
use Rattle.values.specs.declared.stream.entry.Entry.{Entry}
use Rattle.values.specs.declared.stream.entry.Entry.TheVariants as entry

-- 0 null, 1 bool, 2 signed, 3 unsigned, 4 REAL bits, 5 LREAL bits, 6 text, 7 member number, 8 and 9 structure open and
-- close, 10 and 11 array open and close
abbrev pub entry_kind : Entry → ℕ
entry_kind entry.Null = 0
entry_kind (entry.Bool b) = 1
entry_kind (entry.Signed x) = 2
entry_kind (entry.Unsigned x) = 3
entry_kind (entry.Real x) = 4
entry_kind (entry.LReal x) = 5
entry_kind (entry.Text place long) = 6
entry_kind (entry.Member j) = 7
entry_kind entry.Open = 8
entry_kind entry.Close = 9
entry_kind entry.ArrayOpen = 10
entry_kind entry.ArrayClose = 11

-- the payload as a number of 64 bits: a bool is 0 or 1, a text its place and its length; unused payload is zero
abbrev pub entry_payload : Entry → ℕ
entry_payload entry.Null = 0
entry_payload (entry.Bool b) = digit b
entry_payload (entry.Signed x) = x
entry_payload (entry.Unsigned x) = x
entry_payload (entry.Real x) = x
entry_payload (entry.LReal x) = x
entry_payload (entry.Text place long) = place + 2 ^ 32 * long
entry_payload (entry.Member j) = j
entry_payload entry.Open = 0
entry_payload entry.Close = 0
entry_payload entry.ArrayOpen = 0
entry_payload entry.ArrayClose = 0

-- an entry's numbers have 32 or 64 bits
abbrev pub EntryFits : Entry → Type 0
EntryFits entry.Null = Unit {0}
EntryFits (entry.Bool b) = Unit {0}
EntryFits (entry.Signed x) = x < 2 ^ 64
EntryFits (entry.Unsigned x) = x < 2 ^ 64
EntryFits (entry.Real x) = x < 2 ^ 32
EntryFits (entry.LReal x) = x < 2 ^ 64
EntryFits (entry.Text place long) = (place < 2 ^ 32) × (long < 2 ^ 32)
EntryFits (entry.Member j) = j < 2 ^ 32
EntryFits entry.Open = Unit {0}
EntryFits entry.Close = Unit {0}
EntryFits entry.ArrayOpen = Unit {0}
EntryFits entry.ArrayClose = Unit {0}

-- its twelve bytes
abbrev pub bytes_of_entry : Entry → List ℕ
bytes_of_entry e = entry_bytes (entry_kind e) (entry_payload e)

-- so does what was loaded
abbrev pub LoadedFits : Option Entry → Type 0
LoadedFits (Some e) = EntryFits e
LoadedFits None = Unit {0}

-- ---- what twelve bytes say

-- what an answer says: an entry's kind and its payload, or 17
abbrev pub said_by : Option Entry → Said (ℕ × ℕ)
said_by (Some e) = done (entry_kind e, entry_payload e)
said_by None = refused 17 0

-- whether a number of 64 bits is right as a payload of each kind, 0 to 11: a bool is 0 or 1, REAL bits and a member's
-- number have 32 bits, and unused payload is zero
abbrev pub payloads_right : ℕ → List Bool
payloads_right x =
    eqb x 0 ∷ ltb x 2 ∷ true ∷ true ∷ ltb x (2 ^ 32) ∷ true ∷ true ∷ ltb x (2 ^ 32) ∷ eqb x 0 ∷ eqb x 0 ∷ eqb x 0
    ∷ eqb x 0 ∷ []

unfoldable pub payload_right : ℕ → ℕ → Bool
payload_right kind x = get_or (payloads_right x) kind false

-- a kind and a payload, or 17
abbrev pub entry_or17 : Bool → ℕ → ℕ → Said (ℕ × ℕ)
entry_or17 good kind x = cond good (done (kind, x)) (refused 17 0)

-- three zeros after the kind
unfoldable pub three_zeros : List ℕ → ℕ → Bool
three_zeros s at = eqb (get_or s (at + 1) 0) 0 && eqb (get_or s (at + 2) 0) 0 && eqb (get_or s (at + 3) 0) 0

abbrev pub kind_at : List ℕ → ℕ → ℕ
kind_at s at = get_or s at 0

abbrev pub payload_at : List ℕ → ℕ → ℕ
payload_at s at = word_at 8 s (at + 4)

-- the bytes are there, and they are an entry's
unfoldable pub is_entry : List ℕ → ℕ → Bool
is_entry s at = leb (at + 12) (length s) && three_zeros s at && payload_right (kind_at s at) (payload_at s at)

unfoldable pub entry_at : List ℕ → ℕ → Said (ℕ × ℕ)
entry_at s at = entry_or17 (is_entry s at) (kind_at s at) (payload_at s at)

-- ---- storing

-- an entry is stored where it has room, and nothing where it has none
unfoldable pub entry_set : List ℕ → ℕ → Entry → List ℕ
entry_set out at e = cond (leb (at + 12) (length out)) (sets out at (bytes_of_entry e)) out

pub record EntryStored (out : List ℕ) (at : ℕ) (e : Entry) (r : Bool) (new : List ℕ) : Type 0 where
  pub answer : r ≡ leb (at + 12) (length out)
  pub leaves : new ≡ entry_set out at e
