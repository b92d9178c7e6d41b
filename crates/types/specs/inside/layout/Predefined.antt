-- What storing a control type asks of the tables (document 01, "Layout", Predefined).
use Rattle.std.specs.Prelude.{ℕ, ◌+◌, ◌/◌, ◌≤◌, List, ◌++◌, ◌≡◌, length}
use Rattle.types.specs.inside.adding.Add.{Ready}
use Rattle.types.specs.inside.layout.Structs.{control_of}
use Rattle.types.specs.layout.Structs.{names_of}
use Rattle.types.specs.declared.adding.used.Used.{Used}

-- what a control type with that name, and those names of its words and its bits, asks of the tables
pub record ControlReady (t m n : List ℕ) (u : Used) (name words bits : List ℕ) : Type 0 where
  pub ready : Ready t m n u (3 + length bits / 2) (length name + 9 + length bits)
  pub two : length words ≡ 6
  pub few : length bits / 2 ≤ 32
  pub parts : length (control_of words bits) ≡ 3 + length bits / 2
  pub long : length (name ++ names_of (control_of words bits)) ≡ length name + 9 + length bits
