-- `frames::answer_room` meets its contract. The length is a law's, since counting so many elements is not.
use Prim.Native.Nat.{ℕ}
use mathlib.Core.Path.{sym}
use lib.ListN.{length-replicate}
use Rattle.frames.proofs.rooms.answer_room.Goals as goal

pub returns : goal.returns
returns c = sym (length-replicate {0} {A = ℕ} 1048585 0)
