-- `types::string_size` meets its contract.
use native.Mathlib.Omega.{arith}
use Rattle.types.specs.layout.Placing.{align_up}
use Rattle.types.specs.layout.Structs.{string_size}
use Rattle.types.proofs.layout.fixed.string_size.Goals as goal

pub returns : goal.returns
unfolding string_size align_up
returns c = omega (arith, c.next_multiple_of.ensures.value)
