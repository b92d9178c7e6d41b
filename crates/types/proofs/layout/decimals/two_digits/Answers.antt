-- `types::two_digits` meets its contract: one digit after a zero, or all of them.
use native.Mathlib.Omega.{arith}
use mathlib.Core.Path.{refl, ap, ◌∙◌}
use mathlib.Core.List.{◌++◌}
use Rattle.types.specs.layout.HostNames.{bit_host}
use Rattle.types.proofs.layout.DigitLaws.{host_short, host_digits}
use Rattle.types.proofs.layout.decimals.two_digits.Goals as goal

pub returns-then-x-lt10 : goal.returns-then-x-lt10
returns-then-x-lt10 c = record {
  is = rw c.last_digit.ensures (host_short c.args.x c.if-x-lt10.true);
  inside = omega arith;
  long = refl;
}

pub returns-else-x-lt10 : goal.returns-else-x-lt10
returns-else-x-lt10 c =
    let s = c.decimal_of.ensures in
    record {
      is = ap (bit_host ++◌) s.is ∙ host_digits c.args.x c.if-x-lt10.false;
      inside = s.inside;
      long = s.long;
    }
