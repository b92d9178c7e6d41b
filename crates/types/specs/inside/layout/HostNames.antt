-- Hosts' names as the code measures them (document 01, "Layout"): how long they can be.
use Rattle.std.specs.Prelude.{ℕ, ◌≤◌, List, ◌≡◌, length}
use Rattle.types.specs.layout.HostNames.{host_name}

pub record HostLong (name : List ℕ) (k r : ℕ) : Type 0 where
  pub is : r ≡ length (host_name name k)
  pub most : r ≤ 26
