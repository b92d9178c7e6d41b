-- `types::Atomic::row` meets its contract.
use Prim.Native.Nat.{ℕ}
use mathlib.Core.Path.{ap, ◌∙◌}
use Rattle.types.specs.atomics.Atomic.{atomic_at, row_of}
use Rattle.types.proofs.atomics.AtomicLaws.{table_row, at_num}
use Rattle.types.proofs.atomics.atomic.Atomic.row.Goals as goal

pub returns : goal.returns
returns c =
    let num = c.num in
    table_row num.result _ c.table.ensures num.ensures.small
    ∙ ap (λ (i : ℕ). row_of (atomic_at i)) num.ensures.is ∙ ap row_of (at_num c.args.self)
