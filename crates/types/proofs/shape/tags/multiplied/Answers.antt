-- `types::multiplied` meets its contract: the product of all is that so far, times that of those left.
use Rattle.types.proofs.shape.ShapeLaws.{mul_start, mul_on, mul_over, mul_done}
use Rattle.types.proofs.shape.tags.multiplied.Goals as goal

pub loop-x-init : goal.loop-x-init
loop-x-init c = mul_start c.args.lengths.now c.requires

pub returns-in_err-n : goal.returns-in_err-n
returns-in_err-n c =
    rw c.from_residual.ensures (mul_over c.loop-x.invariant c.loop-x-test.true c.from.ensures c.in_err-n.ensures)

pub loop-x-preserved : goal.loop-x-preserved
loop-x-preserved c =
    rw c.in_ok-n.ensures.1 (mul_on c.loop-x.invariant c.loop-x-test.true c.from.ensures c.in_ok-n.ensures.0)

pub returns : goal.returns
returns c = mul_done c.loop-x.invariant c.loop-x-test.false
