-- `values::set_few` meets its contract. So far: the first j bools.
use native.Mathlib.Omega.{arith}
use mathlib.Core.Path.{refl}
use Rattle.values.proofs.writing.bools.BoolLaws.{laid_all, laid_bit, laid_none}
use Rattle.values.proofs.writing.bools.BoolRuns.{least_few}
use Rattle.values.proofs.writing.bools.set_few.Goals as goal

pub loop-j-init : goal.loop-j-init
loop-j-init c = laid_none refl

pub overflow_add-k : goal.overflow_add-k
overflow_add-k c = omega (arith, (least_few c.requires.at_least).small)

pub overflow_mul-k : goal.overflow_mul-k
overflow_mul-k c = omega (arith, (least_few c.requires.at_least).small)

pub overflow_add-k-in-loop-j : goal.overflow_add-k-in-loop-j
overflow_add-k-in-loop-j c = omega (arith, (least_few c.requires.at_least).small)

pub bounds-s-k : goal.bounds-s-k
bounds-s-k c = omega (arith, (least_few c.requires.at_least).long)

pub loop-j-preserved : goal.loop-j-preserved
loop-j-preserved c =
    laid_bit c.args.at c.loop-j.j c.loop-j.invariant c.put_bit.auto.image c.put_bit.ensures refl

pub returns : goal.returns
returns c = laid_all c.loop-j.invariant (omega arith)
