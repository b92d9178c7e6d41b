-- What the loop of `types::mark` keeps: `Marking`.
use Rattle.types.proofs.adding.checks.CheckLaws.{Marking}
use Rattle.types.proofs.adding.checks.mark.Given as goal

abbrev pub invariant-loop-b : goal.invariant-loop-b
invariant-loop-b l = Marking l.name l.h l.b-index
