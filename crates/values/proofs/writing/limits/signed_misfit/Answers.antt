-- `values::signed_misfit` meets its contract: below zero it is above what is too low, else it is not too high.
use borrow.Author.Tests.{le-leb, lt-leb, lt-ltb, le-ltb}
use Rattle.values.specs.inside.writing.Limits.{signed_misfit}
use Rattle.values.proofs.writing.limits.signed_misfit.Goals as goal

pub returns-then-x-lt9223372036854775808 : goal.returns-then-x-lt9223372036854775808
unfolding signed_misfit
returns-then-x-lt9223372036854775808 c =
    simp (lt-leb _ _ c.if-x-lt9223372036854775808.true) c.above_misfit.ensures

pub returns-then-f-x : goal.returns-then-f-x
unfolding signed_misfit
returns-then-f-x c = simp (le-leb _ _ c.if-x-lt9223372036854775808.false, lt-ltb _ _ c.if-f-x.true)

pub returns-else-f-x : goal.returns-else-f-x
unfolding signed_misfit
returns-else-f-x c = simp (le-leb _ _ c.if-x-lt9223372036854775808.false, le-ltb _ _ c.if-f-x.false)
