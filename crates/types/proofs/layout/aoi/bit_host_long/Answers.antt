-- `types::bit_host_long` meets its contract.
use native.Mathlib.Omega.{arith}
use Rattle.types.proofs.layout.DigitLaws.{bit_host_few, bit_host_long}
use Rattle.types.proofs.layout.aoi.bit_host_long.Goals as goal

pub returns : goal.returns
returns c =
    let spelled = rw c.from.ensures at c.two_digits-d.ensures in
    let long = bit_host_long c.args.i spelled in
    record { is = long; most = omega (arith, long, bit_host_few c.args.i c.requires) }
