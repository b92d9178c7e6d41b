-- What the loop of `types::lost_bits` keeps: the bits so far and those of the rows left are the bits of all.
use Rattle.types.proofs.templates.waste.WasteLaws.{CountingBits}
use Rattle.types.proofs.templates.waste.lost_bits.Given as goal

abbrev pub invariant-loop-row : goal.invariant-loop-row
invariant-loop-row l = CountingBits l.types l.members l.first l.row-end l.bits l.row
