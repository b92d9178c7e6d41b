-- How far the first j declared members came is what the definition says of them.
use Rattle.types.proofs.layout.Measuring.{Measuring}
use Rattle.types.proofs.layout.measure.measure.Given as goal

abbrev pub invariant-loop-j : goal.invariant-loop-j
invariant-loop-j l =
    Measuring l.types l.book l.tys l.name l.at l.n l.initial.c l.initial.long l.c l.long l.j
