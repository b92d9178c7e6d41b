-- What the search for a free id promises (document 01, "Ids"): what a lowest id is, without a search.
use Rattle.std.specs.Prelude.{ℕ, ◌<◌, ◌≤◌, List, ◌≡◌}
use Rattle.types.specs.adding.Ids.{id_word}

-- one of the first n types holds the id
abbrev pub Held : List ℕ → ℕ → ℕ → Type 0
Held types n id = (i : ℕ) × (i < n) × (id_word types i ≡ id)

-- in code: each id below r is held, and r is not; 0xF00 where every id is held
pub record Lowest (types : List ℕ) (n r : ℕ) : Type 0 where
  pub low : 0x100 ≤ r
  pub high : r ≤ 0xF00
  pub taken : (k : ℕ) → 0x100 ≤ k → k < r → Held types n k
  pub free : r < 0xF00 → Held types n r → ⊥
