-- What the code's test of an entry says (document 01, "Writing"), against what the entry does to its place.
use Rattle.std.specs.Prelude.{ℕ, ◌*◌, cond, ◌≡◌, Option, None, Some}
use Rattle.words.specs.Bits.{Bits}
use Rattle.types.specs.atomics.Atomic.{bit_string, size_of}
use Rattle.types.specs.declared.atomics.atomic.Atomic.{Atomic}
use Rattle.values.specs.declared.writing.limits.Misfit.{Misfit}
use Rattle.values.specs.declared.writing.limits.Misfit.TheVariants.{Kind, Range}
use Rattle.values.specs.reading.Leaf.{leaf_of}
use Rattle.values.specs.stream.Stream.{Token}
use Rattle.values.specs.writing.Effects.{Effect, bits_whole, taken, keep, put, refuse}

-- and what one atomic takes, of an array too: a bit string a whole number
unfoldable pub atomic_takes : Atomic → Token → Effect
atomic_takes a t = cond (bit_string a) (bits_whole (8 * size_of a) t) (taken (leaf_of a) t)

-- why an entry is not taken, by the refusal's number
abbrev pub number_in : Misfit → ℕ
number_in Kind = 18
number_in Range = 19

-- what is said of an entry, against its effect
pub data Judged (e : Effect) (r : Option Misfit) : Type 0 where
  -- a null is taken
  kept : r ≡ None → e ≡ keep → Judged e r
  -- a value is taken
  set : r ≡ None → (b : Bits) → e ≡ put b → Judged e r
  -- it is refused
  refused : (why : Misfit) → r ≡ Some why → e ≡ refuse (number_in why) → Judged e r
