-- A law of the room in the tables (document 01, refusal 13).
use Prim.Native.Nat.{ℕ, ◌+◌, ◌<◌, ◌≤◌}
use mathlib.Core.Path.{◌≡◌}
use borrow.Author.Tests.{lt-ltb, le-leb}
use lib.Dec.{leb}
use Rattle.types.specs.adding.Add.{room_in_tables}
use Rattle.types.specs.tables.Limits.{most_types, most_members, most_names}
use Rattle.types.specs.declared.adding.used.Used.{Used}

-- where a type and its members have rows, there is room just where its names fit
pub room_bytes : (u : Used) (members bytes : ℕ) → u.types < most_types → u.members + members ≤ most_members
    → leb (u.bytes + bytes) most_names ≡ room_in_tables u members bytes
unfolding room_in_tables
room_bytes u members bytes l h = simp (lt-ltb _ _ l, le-leb _ _ h)
