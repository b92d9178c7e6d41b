-- `types::no_members` meets its contract.
use mathlib.Core.Path.{refl}
use Rattle.types.specs.tables.Registry.{no_members}
use Rattle.types.proofs.tables.lent.no_members.Goals as goal

pub returns : goal.returns
unfolding no_members
returns c = refl
