-- What the loop of `types::same_name` keeps: the bytes behind are the same.
use Rattle.types.proofs.book.NameLaws.{SameFrom}
use Rattle.types.proofs.book.names.same_name.Given as goal

abbrev pub invariant-loop-i : goal.invariant-loop-i
invariant-loop-i l = SameFrom l.a l.b l.i
