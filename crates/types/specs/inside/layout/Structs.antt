-- The parts of the predefined types as the code stores them (document 01, "Layout", Predefined): from the names of
-- their words and bits, with room in the tables.
use Rattle.std.specs.Prelude.{ℕ, zero, suc, ◌+◌, ◌*◌, ◌/◌, ◌≤◌, List, [], ◌∷◌, ◌≡◌, length}
use Rattle.words.specs.Words.{part}
use Rattle.types.specs.layout.Structs.{control_parts}
use Rattle.types.specs.tables.Defs.{Part}
use Rattle.types.specs.tables.Limits.{most_members, most_names}

-- the n names of two bytes each, from the i-th on
unfoldable pub pairs : List ℕ → ℕ → ℕ → List (List ℕ)
pairs s i zero = []
pairs s i (suc n) = part s (2 * i) 2 ∷ pairs s (i + 1) n

-- the parts of a control type, from the names of its two words, three bytes each, and those of its bits
abbrev pub control_of : List ℕ → List ℕ → List Part
control_of words bits = control_parts (part words 0 3) (part words 3 3) (pairs bits 0 (length bits / 2))

-- what the names of status bits, two bytes each, ask of the tables from a row and a place on; and those of a control
-- type, whose two words have three bytes each
pub record BitsFit (bits : List ℕ) (row place : ℕ) : Type 0 where
  pub few : length bits / 2 ≤ 32
  pub rows : row + length bits / 2 ≤ most_members
  pub names : place + length bits ≤ most_names

pub record ControlFits (words bits : List ℕ) (row place : ℕ) : Type 0 where
  pub long : length words ≡ 6
  pub fit : BitsFit bits (row + 3) (place + 9)
