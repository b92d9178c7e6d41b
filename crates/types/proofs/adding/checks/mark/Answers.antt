-- `types::mark` meets its contract. The invariant is `Marking`.
use Rattle.std.proofs.Common.{◌∙◌, refl, arith}
use Rattle.types.proofs.adding.checks.CheckLaws.{marking_start, marking_on, marking_done}
use Rattle.types.proofs.adding.checks.mark.Goals as goal

pub loop-b-init : goal.loop-b-init
loop-b-init c = marking_start c.args.name.now

pub loop-b-preserved : goal.loop-b-preserved
loop-b-preserved c = marking_on c.loop-b.invariant (omega arith) (c.from.ensures ∙ c.lower.ensures)

pub returns : goal.returns
returns c = marking_done c.loop-b.invariant (omega arith) refl
