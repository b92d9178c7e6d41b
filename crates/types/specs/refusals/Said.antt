-- What a call says (document 01, "Refusal numbers"): a value, or a refusal's number and place.
use Rattle.std.specs.Prelude.{ℕ, Result, Ok, Err}
use Rattle.types.specs.refusals.Refusal.{number_of, place_of}
use Rattle.types.specs.declared.refusals.refusal.Refusal.{Refusal}

-- what is said
pub data Said (A : Type 0) : Type 0 where
  -- a value
  done : A → Said A
  -- a refusal: its number, its place
  refused : ℕ → ℕ → Said A

-- a refusal says its number and its place
abbrev pub why : {A : Type 0} → Refusal → Said A
why r = refused (number_of r) (place_of r)

-- the two as one
abbrev pub Why : Type 0
Why = ℕ × ℕ

abbrev pub why_of : Refusal → Why
why_of r = (number_of r, place_of r)

-- what an answer says: its value, or the number and place of its refusal
abbrev pub said_by : {A : Type 0} → Result A Refusal → Said A
said_by (Ok x) = done x
said_by (Err r) = why r
