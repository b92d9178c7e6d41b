-- `values::set_eights` meets its contract. So far: the first 8 * b bools.
use Prim.Native.Nat.{◌*◌}
use native.Mathlib.Omega.{arith}
use Rattle.values.proofs.writing.bools.BoolLaws.{laid_all, laid_byte, laid_none}
use Rattle.values.proofs.writing.bools.BoolRuns.{later, least_few}
use Rattle.values.proofs.writing.bools.set_eights.Goals as goal

pub loop-b-init : goal.loop-b-init
loop-b-init c = laid_none (omega arith)

pub overflow_mul-b : goal.overflow_mul-b
overflow_mul-b c = omega (arith, (least_few c.requires.at_least).small)

pub overflow_add-k : goal.overflow_add-k
overflow_add-k c = omega (arith, (least_few c.requires.at_least).small)

pub eight-requires : goal.eight-requires
eight-requires c = later c.requires.at_least (8 * c.loop-b.b) 8 (omega arith)

pub loop-b-preserved : goal.loop-b-preserved
loop-b-preserved c =
    laid_byte c.args.base c.loop-b.b c.loop-b.invariant
    (omega (arith, c.requires.inside, c.loop-b.invariant.long)) c.eight.ensures

pub returns : goal.returns
returns c = laid_all c.loop-b.invariant (omega arith)
