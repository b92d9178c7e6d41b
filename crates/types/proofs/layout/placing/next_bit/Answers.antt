-- `types::next_bit` meets its contract.
use mathlib.Core.Path.{refl}
use Rattle.types.specs.layout.Placing.{next_bit}
use Rattle.types.proofs.layout.placing.next_bit.Goals as goal

pub returns : goal.returns
unfolding next_bit
returns c = refl
