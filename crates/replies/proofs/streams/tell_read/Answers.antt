-- `replies::tell_read` is safe and ends: a stream that was read is not longer than its room.
use Rattle.std.proofs.Common.{arith}
use Rattle.values.proofs.Face.{read_short}
use Rattle.replies.proofs.streams.tell_read.Goals as goal

pub overflow_add-result : goal.overflow_add-result
overflow_add-result c =
    let answered = rw c.in_ok-n.was at c.read.ensures in
    omega (arith, read_short answered)
