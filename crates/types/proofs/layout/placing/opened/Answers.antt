-- `types::opened` meets its contract.
use mathlib.Core.Path.{refl}
use Rattle.types.specs.layout.Placing.{opened}
use Rattle.types.proofs.layout.placing.opened.Goals as goal

pub returns : goal.returns
unfolding opened
returns c = refl
