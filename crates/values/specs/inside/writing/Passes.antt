-- What the two passes of a write answer (document 01, "Writing"): the check, which touches no image, and then the pass
-- that sets. Both answer the number of the next entry, the check else a refusal.
use Rattle.std.specs.Prelude.{ℕ, ◌-◌, ◌<◌, ◌≤◌, Bool, true, false, List, [], ◌∷◌, ◌≡◌, length, Result, MatchResult}
use Rattle.words.specs.Bits.{Bits, flat}
use Rattle.types.specs.refusals.Refusal.{number_of, place_of}
use Rattle.types.specs.declared.refusals.refusal.Refusal.{Refusal}
use Rattle.values.specs.stream.Decode.{tokens_from}
use Rattle.values.specs.stream.Form.{base_in, count_in, stream_ok}
use Rattle.values.specs.stream.Stream.{Token, kind_of}
use Rattle.values.specs.writing.Writing.{Outcome, ok, bad}

-- the entries of a stream from number k on
unfoldable pub left_at : List ℕ → ℕ → List Token
left_at s k = tokens_from s (base_in s) k (count_in s - k)

-- the kind of the first of some entries; 12, which is no kind, where there is none
abbrev pub first_kind : List Token → ℕ
first_kind [] = 12
first_kind (t ∷ ts) = kind_of t

-- a stream whose form is good, of n entries
pub record WellFormed (s : List ℕ) (n : ℕ) : Type 0 where
  pub form : stream_ok s ≡ true
  pub count : n ≡ count_in s

-- ---- the check, for every image

-- it went on to entry r
pub record CheckGoes (s : List ℕ) (k r : ℕ) (f : Bits → Outcome) : Type 0 where
  pub further : k < r
  pub inside : r ≤ count_in s
  pub gives : (z : Bits) → (new : Bits) × (f z ≡ ok (left_at s r) new)

-- it refused: the refusal has the number, and its place is the bad entry's
pub record Refuses (s : List ℕ) (why : Refusal) (f : Bits → Outcome) : Type 0 where
  pub inside : place_of why ≤ count_in s
  pub gives : (z : Bits) → f z ≡ bad (number_of why) (left_at s (place_of why))

-- what it answered, from entry k on
pub record CheckedFrom (s : List ℕ) (k : ℕ) (r : Result ℕ Refusal) (f : Bits → Outcome) : Type 0 where
  pub says : MatchResult r (λ next. CheckGoes s k next f) (λ why. Refuses s why f)

-- ---- and what sets, where the check accepted

abbrev pub accepted : Outcome → Bool
accepted (ok ts z) = true
accepted (bad number ts) = false

pub record Applied (s : List ℕ) (k r : ℕ) (image new : List ℕ) (f : Bits → Outcome) : Type 0 where
  pub further : k < r
  pub inside : r ≤ count_in s
  pub long : length new ≡ length image
  pub gives : f (flat image) ≡ ok (left_at s r) (flat new)
