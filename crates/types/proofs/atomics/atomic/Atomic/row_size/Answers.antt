-- `types::Atomic::row_size` meets its contract: the size of a row is its atomic's.
use mathlib.Core.Path.{ap}
use Rattle.types.specs.atomics.Atomic.{row_of}
use Rattle.types.specs.declared.atomics.atomic.AtomicRow.{AtomicRow}
use Rattle.types.proofs.atomics.atomic.Atomic.row_size.Goals as goal

pub returns : goal.returns
unfolding row_of
returns c = ap (λ (r : AtomicRow). r.1) c.row.ensures
