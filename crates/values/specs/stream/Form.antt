-- The form of a value stream (document 01, "Value stream"; refusal 17): the number of entries, that many entries, and
-- the text bodies, gapless, in entry order, to the stream's end; at most 2^31 bytes.
use Rattle.std.specs.Prelude.{ℕ, zero, suc, ◌+◌, ◌*◌, ◌/◌, ◌%◌, ◌^◌, Bool, false, cond, ◌&&◌, List, eqb, leb, length}
use Rattle.words.specs.Words.{word_at}
use Rattle.values.specs.stream.Entry.{is_entry, kind_at, payload_at}
use Rattle.values.specs.stream.Stream.{most_bytes}

-- what an entry says of the texts
pub data TextStep : Type 0 where
  -- where the next one must begin, counted from the bodies' start
  At : ℕ → TextStep
  -- the stream is malformed
  Broken : TextStep

-- a text must begin at the place where the one before it ended, and moves that place on
abbrev pub text_step : ℕ → ℕ → ℕ → TextStep
text_step at long place = cond (eqb at place) (At (place + long)) Broken

-- by the kind and the payload: no other entry moves the place
abbrev pub entry_step : ℕ → ℕ → ℕ → TextStep
entry_step kind x place = cond (eqb kind 6) (text_step (x % 2 ^ 32) (x / 2 ^ 32) place) (At place)

-- of the twelve bytes at a place
abbrev pub step_at : List ℕ → ℕ → ℕ → TextStep
step_at s at place = cond (is_entry s at) (entry_step (kind_at s at) (payload_at s at) place) Broken

abbrev pub on_step : TextStep → (ℕ → Bool) → Bool
on_step (At place) go = go place
on_step Broken go = false

-- the n entries from number k on, where the next text begins at a place of the bodies; these begin at the base
unfoldable pub formed : List ℕ → ℕ → ℕ → ℕ → ℕ → Bool
formed s base k zero place = eqb (base + place) (length s)
formed s base k (suc n) place = on_step (step_at s (4 + 12 * k) place) (λ next. formed s base (k + 1) n next)

-- how many entries a stream says that it has, and where its bodies then begin
abbrev pub count_in : List ℕ → ℕ
count_in s = word_at 4 s 0

abbrev pub base_in : List ℕ → ℕ
base_in s = 4 + 12 * count_in s

-- the last text ends where the stream does, so that the entries that it counts lie in it
unfoldable pub stream_ok : List ℕ → Bool
stream_ok s = leb (length s) most_bytes && formed s (base_in s) 0 (count_in s) 0
