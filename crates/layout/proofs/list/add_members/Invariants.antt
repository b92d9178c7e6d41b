-- The place of `layout::add_members` lies in the buffer, which keeps its length.
use Rattle.std.proofs.Common.{◌≡◌, ◌≤◌, length}
use Rattle.layout.proofs.list.add_members.Given as goal

abbrev pub invariant-loop-k : goal.invariant-loop-k
invariant-loop-k l = record { inside : l.at ≤ length l.out; long : length l.out ≡ length l.initial.out }
