-- The place of `layout::list` lies in the buffer, which keeps its length.
use Rattle.std.proofs.Common.{◌≡◌, ◌≤◌, length}
use Rattle.layout.proofs.list.list.Given as goal

abbrev pub invariant-loop-i : goal.invariant-loop-i
invariant-loop-i l = record { inside : l.at ≤ length l.out; long : length l.out ≡ length l.initial.out }
