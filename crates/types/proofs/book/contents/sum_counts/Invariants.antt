-- What the loop of `types::sum_counts` keeps: all counts are those so far and those that are left.
use Rattle.types.proofs.book.BookLaws.{Summing}
use Rattle.types.proofs.book.contents.sum_counts.Given as goal

abbrev pub invariant-loop-i : goal.invariant-loop-i
invariant-loop-i l = Summing l.book l.n l.sum l.i
