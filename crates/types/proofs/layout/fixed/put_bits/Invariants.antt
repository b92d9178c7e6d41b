-- `types::put_bits` meets its contract. The invariant is `PuttingBits`, with the names that are left.
use Rattle.std.proofs.Common.{◌*◌, ◌/◌, ◌≡◌, length, drop}
use Rattle.types.proofs.layout.fixed.FixedLaws.{PuttingBits}
use Rattle.types.proofs.layout.fixed.put_bits.Given as goal

abbrev pub invariant-loop-i : goal.invariant-loop-i
invariant-loop-i l =
    PuttingBits l.bits l.initial.members l.initial.names l.row l.place (length l.bits / 2) l.members l.names
    l.i-iterator.count
    × (l.i-iterator.iter.rest.now ≡ drop (2 * l.i-iterator.count) l.bits)
    × (l.i-iterator.iter.size ≡ 2)
