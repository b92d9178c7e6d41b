-- How many entries and bytes of text a value has (document 01, "Value stream"): what the counts promise within the room
-- that there is. The entries depend on the type alone.
use Rattle.std.specs.Prelude.{ℕ, ◌+◌, ◌^◌, ◌≤◌, ◌<◌, Bool, false, List, [], ◌≡◌, length}
use Rattle.values.specs.stream.Stream.{Token, bodies}

-- the entries of what any image gives, counted on from a number: exact where the sum is at most `most`, else both are
-- above it; that none is a text, where none was met
pub record Counted (most from : ℕ) (f : List ℕ → List Token) (before after : Bool) (sum : ℕ) : Type 0 where
  pub exact : sum ≤ most → (image : List ℕ) → sum ≡ from + length (f image)
  pub over : most < sum → (image : List ℕ) → most < from + length (f image)
  pub quiet : sum ≤ most → after ≡ false → (image : List ℕ) → bodies (f image) ≡ []
  pub still : after ≡ false → before ≡ false

-- entries of which none is a text: as many for any image
pub record TextFree (f : List ℕ → List Token) (r : ℕ) : Type 0 where
  pub exact : (image : List ℕ) → length (f image) ≡ r
  pub plain : (image : List ℕ) → bodies (f image) ≡ []

-- the bytes of text of some entries, in the same way
pub record Texts (room : ℕ) (ts : List Token) (r : ℕ) : Type 0 where
  pub exact : r ≤ room → length (bodies ts) ≡ r
  pub over : room < r → room < length (bodies ts)
  pub small : r ≤ room + 2 ^ 32
