-- `types::table` meets its contract: one computed test, `refl`, over the whole table.
use mathlib.Core.Path.{refl}
use Rattle.types.specs.atomics.Atomic.{code_of, size_of, name_of, row_of}
use Rattle.types.specs.inside.atomics.Atomic.{table_rows}
use Rattle.types.proofs.atomics.atomic.table.Goals as goal

pub returns : goal.returns
unfolding code_of size_of name_of row_of table_rows
returns c = refl
