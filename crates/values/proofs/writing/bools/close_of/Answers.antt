-- `values::close_of` meets its contract. In the loop: the entry lies among the bools of the run, or is its close.
use Prim.Native.Nat.{◌<◌}
use native.Mathlib.Omega.{arith}
use mathlib.Core.Path.{sym, ◌∙◌}
use Rattle.values.specs.stream.Form.{count_in}
use Rattle.values.proofs.stream.LeftLaws.{few_entries}
use Rattle.values.proofs.writing.bools.BoolRuns.{among_close, among_on, among_start}
use Rattle.values.proofs.writing.bools.close_of.Goals as goal
use Rattle.values.proofs.writing.bools.close_of.Goals.{At-loop-p}

-- there is an entry
below : (c : At-loop-p) → c.loop-p.p < count_in c.args.s.now
below c =
    omega (arith, c.requires.run.inside, c.loop-p.invariant.upto c.requires.many c.requires.run)

pub loop-p-init : goal.loop-p-init
loop-p-init c = among_start

pub kind_of-requires : goal.kind_of-requires
kind_of-requires c = (c.requires.run.form, below (goal.at.kind_of-requires c).At-loop-p)

pub overflow_add-p : goal.overflow_add-p
overflow_add-p c =
    omega (arith, below (goal.at.overflow_add-p c).At-loop-p, few_entries c.args.s.now c.requires.run.form)

pub loop-p-smaller : goal.loop-p-smaller
loop-p-smaller c = omega (arith, below (goal.at.loop-p-smaller c).At-loop-p)

pub loop-p-preserved : goal.loop-p-preserved
loop-p-preserved c = among_on c.loop-p.invariant (λ e. c.loop-p-test.true (c.kind_of.ensures ∙ e))

pub returns : goal.returns
returns c = among_close c.loop-p.invariant (sym c.kind_of.ensures ∙ c.loop-p-test.false)
