-- Entries and their texts laid into a buffer (document 01, "Value stream"): where they go, that there is room for them,
-- and what then stands in the buffer.
use Rattle.std.specs.Prelude.{ℕ, ◌+◌, ◌*◌, ◌≤◌, List, ◌≡◌, length}
use Rattle.std.proofs.lemmas.List.Edits.{sets}
use Rattle.values.specs.stream.Stream.{Token, heads, bodies, most_bytes}
use Rattle.values.specs.declared.stream.place.Place.{Place}

-- entries without a text, from a place on; where the next one goes
pub record EntriesPut (out : List ℕ) (at : ℕ) (ts : List Token) (new : List ℕ) (r : ℕ) : Type 0 where
  pub next : r ≡ at + 12 * length ts
  pub bytes : new ≡ sets out at (heads 0 ts)

-- entries from a place on, and their texts from the base on, after those that are there
unfoldable pub laid_in : List ℕ → ℕ → ℕ → ℕ → List Token → List ℕ
laid_in out base at text ts = sets (sets out at (heads text ts)) (base + text) (bodies ts)

-- the entries fit between their place and the base, and their texts after the base
pub record StreamRoom (long base at text : ℕ) (ts : List Token) : Type 0 where
  pub entries : at + 12 * length ts ≤ base
  pub texts : base + text + length (bodies ts) ≤ long
  pub most : base + text + length (bodies ts) ≤ most_bytes

pub record TokensLaid (out : List ℕ) (base at text : ℕ) (ts : List Token) (new : List ℕ) (p : Place) : Type 0 where
  pub entries : p.at ≡ at + 12 * length ts
  pub texts : p.text ≡ text + length (bodies ts)
  pub bytes : new ≡ laid_in out base at text ts
