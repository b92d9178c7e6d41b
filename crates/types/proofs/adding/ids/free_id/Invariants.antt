-- What the loops of `types::free_id` keep: every id below is held, and none of the rows passed holds this one.
use Rattle.std.proofs.Common.{◌≡◌, ℕ, ◌+◌, ◌-◌, ◌*◌, ◌≤◌, ◌<◌, get_or}
use Rattle.types.specs.inside.adding.Ids.{Held}
use Rattle.types.proofs.adding.ids.free_id.Given as goal

abbrev pub invariant-loop-i : goal.invariant-loop-i
invariant-loop-i l = (l.id ≡ l.initial.id) × ((l.i ≤ l.n)
    × ((k : ℕ) → k < l.i → get_or l.types (8 * k + 2) 0 ≡ l.initial.id → ⊥))

abbrev pub decreases-loop-i : goal.decreases-loop-i
decreases-loop-i l = l.n - l.i

abbrev pub invariant-ids : goal.invariant-ids
invariant-ids l = (0x100 ≤ l.id) × ((l.id ≤ 0xF00) × ((k : ℕ) → 0x100 ≤ k → k < l.id → Held l.types l.n k))

abbrev pub decreases-ids : goal.decreases-ids
decreases-ids l = 0xF00 - l.id
