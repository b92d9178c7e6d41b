-- `values::whole_misfit` meets its contract: a signed number, an unsigned one, or another kind.
use native.Mathlib.Omega.{arith}
use borrow.Author.Tests.{eq-eqb, ne_eqb}
use Rattle.values.specs.inside.writing.Limits.{whole_misfit}
use Rattle.values.proofs.writing.limits.whole_misfit.Goals as goal

pub returns-in-2 : goal.returns-in-2
unfolding whole_misfit
returns-in-2 c = simp (eq-eqb _ _ c.in-2.is) c.signed_misfit.ensures

pub returns-in-3 : goal.returns-in-3
unfolding whole_misfit
returns-in-3 c = simp (ne_eqb c.args.kind 2 (omega arith), eq-eqb _ _ c.in-3.is) c.above_misfit.ensures

pub returns-in_default : goal.returns-in_default
unfolding whole_misfit
returns-in_default c = simp (ne_eqb c.args.kind 2 (omega arith), ne_eqb c.args.kind 3 (omega arith))
