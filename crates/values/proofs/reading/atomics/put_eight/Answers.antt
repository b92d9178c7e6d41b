-- `values::put_eight` meets its contract: an entry for each bit, one after the other.
use Rattle.std.proofs.Common.{ℕ, ◌*◌, ap}
use Rattle.values.proofs.reading.atomics.BitRunLaws.{next_bit, no_bit}
use Rattle.values.proofs.reading.atomics.put_eight.Goals as goal

pub loop-k-init : goal.loop-k-init
loop-k-init c = no_bit

pub loop-k-preserved : goal.loop-k-preserved
loop-k-preserved c =
    next_bit c.loop-k.invariant c.loop-k-test.true (ap (λ (k : ℕ). 12 * k) c.from.ensures) c.bit_of.ensures
    c.put_entry.ensures
