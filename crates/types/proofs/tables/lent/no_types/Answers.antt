-- `types::no_types` meets its contract.
use mathlib.Core.Path.{refl}
use Rattle.types.specs.tables.Registry.{no_types}
use Rattle.types.proofs.tables.lent.no_types.Goals as goal

pub returns : goal.returns
unfolding no_types
returns c = refl
