-- `types::host_long` meets its contract.
use native.Mathlib.Omega.{arith}
use Rattle.types.proofs.layout.DigitLaws.{host_few, host_long}
use Rattle.types.proofs.layout.host_names.host_long.Goals as goal

pub returns : goal.returns
returns c =
    let a = c.args in
    let spelled = rw c.from.ensures at c.decimal_of-d.ensures in
    let long = host_long a.name.now a.k c.min-n.result spelled c.min-n.ensures in
    record { is = long; most = omega (arith, long, host_few a.name.now a.k c.requires) }
