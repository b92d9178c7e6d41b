-- `values::above_misfit` meets its contract: at most the greatest, or above it.
use borrow.Author.Tests.{le-leb, lt-leb}
use Rattle.values.specs.inside.writing.Limits.{above_misfit}
use Rattle.values.proofs.writing.limits.above_misfit.Goals as goal

pub returns-then-x-f : goal.returns-then-x-f
unfolding above_misfit
returns-then-x-f c = simp (le-leb _ _ c.if-x-f.true)

pub returns-else-x-f : goal.returns-else-x-f
unfolding above_misfit
returns-else-x-f c = simp (lt-leb _ _ c.if-x-f.false)
