-- `types::name_row` meets its contract: the first two words of the row.
use mathlib.Core.Path.{refl}
use Rattle.types.specs.tables.Lent.{name_at}
use Rattle.types.proofs.tables.lent.name_row.Goals as goal

pub returns : goal.returns
unfolding name_at
returns c = refl
