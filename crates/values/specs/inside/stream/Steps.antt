-- The steps of the form's test as the code makes them (document 01, "Value stream"): by a kind and a payload, with the
-- greatest payload of each kind, to a place or to none. That it is what `Form` says is one law over the kinds.
use Rattle.std.specs.Prelude.{ℕ, ◌+◌, ◌^◌, ◌≤◌, cond, ◌||◌, ◌≡◌, eqb, Option, Some, None}
use Rattle.values.specs.stream.Entry.{payload_right}
use Rattle.values.specs.stream.Form.{TextStep, At, Broken, entry_step}

-- of a kind and a payload: malformed where the payload is not right
unfoldable pub text_step_of : ℕ → ℕ → ℕ → TextStep
text_step_of kind x place = cond (payload_right kind x) (entry_step kind x place) Broken

-- of a kind that is no text: a bool is 0 or 1, REAL bits and a member number have 32 bits, the numbers and LREAL bits
-- 64, null and the brackets none
unfoldable pub most_of : ℕ → ℕ
most_of kind =
    cond (eqb kind 1) 1
    (cond (eqb kind 2 || eqb kind 3 || eqb kind 5) 0xFFFFFFFFFFFFFFFF
    (cond (eqb kind 4 || eqb kind 7) 0xFFFFFFFF 0))

-- the next place is at most 2^32 further; none says that the stream is malformed
abbrev pub Moved : ℕ → TextStep → Option ℕ → Type 0
Moved place step (Some r) = (step ≡ At r) × (r ≤ place + 2 ^ 32)
Moved place step None = step ≡ Broken
