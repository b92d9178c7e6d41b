-- `types::no_names` meets its contract.
use mathlib.Core.Path.{refl}
use Rattle.types.specs.tables.Registry.{no_names}
use Rattle.types.proofs.tables.lent.no_names.Goals as goal

pub returns : goal.returns
unfolding no_names
returns c = refl
