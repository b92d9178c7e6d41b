-- `types::elements` meets its contract.
use native.Mathlib.Omega.{arith}
use Rattle.types.proofs.layout.LayoutLaws.{times_most}
use Rattle.types.proofs.layout.placing.elements.Goals as goal

pub returns : goal.returns
returns c =
    record { is = rw (c.max.ensures, c.from.ensures) (times_most c.args.count); small = omega arith }
