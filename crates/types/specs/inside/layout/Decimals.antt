-- Decimal digits as the code spells them (document 01, "Layout"): the end of twenty bytes.
use Rattle.std.specs.Prelude.{ℕ, ◌≤◌, ◌++◌, ◌≡◌, length, drop}
use Rattle.types.specs.layout.HostNames.{digits, bit_host, bit_host_name}
use Rattle.types.specs.declared.layout.decimals.Decimal.{Decimal}

-- a number's digits, as code has them
pub record Spelt (x : ℕ) (r : Decimal) : Type 0 where
  pub is : drop r.from r.bytes ≡ digits x
  pub inside : r.from ≤ 20
  pub long : length r.bytes ≡ 20

-- two or more digits, as code has them
pub record TwoDigits (x : ℕ) (r : Decimal) : Type 0 where
  pub is : bit_host ++ drop r.from r.bytes ≡ bit_host_name x
  pub inside : r.from ≤ 20
  pub long : length r.bytes ≡ 20
