-- `values::clear` meets its contract. The invariant: storing all is storing what is left in what stands now.
use native.Mathlib.Omega.{arith}
use Rattle.values.proofs.writing.sets.SetLaws.{clear_start, clear_on, clear_done}
use Rattle.values.proofs.writing.sets.clear.Goals as goal

pub loop-i-init : goal.loop-i-init
loop-i-init c = clear_start c.args.image.now c.args.at c.args.n

pub loop-i-preserved : goal.loop-i-preserved
loop-i-preserved c = clear_on c.loop-i.invariant (omega arith)

pub returns : goal.returns
returns c = clear_done c.loop-i.invariant (omega arith)
