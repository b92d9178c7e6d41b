-- What one step of a layout counts on (document 01, "Layout"): alignments, how far a cursor has come, and which hosts
-- are open.
use Rattle.std.specs.Prelude.{ℕ, ◌^◌, ◌<◌, ◌≤◌, true, ◌≡◌, Ok}
use Rattle.types.specs.layout.Placing.{times, access_ok, is_bool, placed, opened}
use Rattle.types.specs.declared.layout.placing.Cursor.{Cursor}
use Rattle.types.specs.declared.layout.placing.Decl.{Decl}
use Rattle.types.specs.declared.layout.placing.Host.{Host}
use Rattle.types.specs.declared.layout.placing.Host.TheVariants.{Closed, Open, Shared}

pub record Times (n r : ℕ) : Type 0 where
  pub is : r ≡ times n
  pub small : r < 2 ^ 32

-- what keeps the sums of one step inside 32 bits
pub record Aligned (x align : ℕ) : Type 0 where
  pub far : x ≤ 2 ^ 27
  pub least : 0 < align
  pub most : align ≤ 4

-- so many BOOLs have come before, in an AOI
abbrev pub shared_bits : Host → ℕ
shared_bits Closed = 0
shared_bits (Open byte bit) = 0
shared_bits (Shared i) = i

pub record Able (c : Cursor) (d : Decl) : Type 0 where
  pub aligned : Aligned c.offset d.align
  pub members : c.members ≤ 2 ^ 27
  pub bits : shared_bits c.host ≤ 2 ^ 27

-- a host as a UDT has it
abbrev pub InUdt : Host → Type 0
InUdt Closed = Unit {0}
InUdt (Open byte bit) = Unit {0}
InUdt (Shared i) = ⊥

-- no host is open: the next BOOL opens a new one at the current offset
pub record Shut (c : Cursor) : Type 0 where
  pub host : c.host ≡ Closed
  pub opens : (e : Decl) → access_ok e.access ≡ true → is_bool e.ty ≡ true → placed c e ≡ Ok (opened c e)
