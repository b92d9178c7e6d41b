-- `values::judge` meets its contract: null, a whole number, or the one kind.
use borrow.Author.Tests.{eq-eqb, ne_eqb}
use Rattle.values.specs.inside.writing.Limits.{misfit}
use Rattle.values.proofs.writing.limits.judge.Goals as goal

pub returns-then-kind-eq-NULL : goal.returns-then-kind-eq-NULL
unfolding misfit
returns-then-kind-eq-NULL c = simp (eq-eqb _ _ c.if-kind-eq-NULL.true)

pub returns-then-f-eq-SIGNED : goal.returns-then-f-eq-SIGNED
unfolding misfit
returns-then-f-eq-SIGNED c =
    simp (ne_eqb _ _ c.if-kind-eq-NULL.false, eq-eqb _ _ c.if-f-eq-SIGNED.true) c.whole_misfit.ensures

pub returns-then-kind-f : goal.returns-then-kind-f
unfolding misfit
returns-then-kind-f c =
    simp (
      ne_eqb _ _ c.if-kind-eq-NULL.false,
      ne_eqb _ _ c.if-f-eq-SIGNED.false,
      eq-eqb _ _ c.if-kind-f.true,
    )

pub returns-else-kind-f : goal.returns-else-kind-f
unfolding misfit
returns-else-kind-f c =
    simp (
      ne_eqb _ _ c.if-kind-eq-NULL.false,
      ne_eqb _ _ c.if-f-eq-SIGNED.false,
      ne_eqb _ _ c.if-kind-f.false,
    )
