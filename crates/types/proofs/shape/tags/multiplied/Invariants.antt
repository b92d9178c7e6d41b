-- What the loop of `types::multiplied` keeps: the product of all is that so far, times that of those left.
use Rattle.types.proofs.shape.ShapeLaws.{Multiplying}
use Rattle.types.proofs.shape.tags.multiplied.Given as goal

abbrev pub invariant-loop-x : goal.invariant-loop-x
invariant-loop-x l = Multiplying l.lengths l.n l.x-index
