-- `types::Atomic::code` meets its contract.
use mathlib.Core.Path.{ap}
use Rattle.types.specs.atomics.Atomic.{row_of}
use Rattle.types.specs.declared.atomics.atomic.AtomicRow.{AtomicRow}
use Rattle.types.proofs.atomics.atomic.Atomic.code.Goals as goal

pub returns : goal.returns
unfolding row_of
returns c = ap (λ (r : AtomicRow). r.0) c.row.ensures
