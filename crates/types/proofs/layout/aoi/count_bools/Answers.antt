-- `types::count_bools` meets its contract: the BOOLs of all are those so far and those of the members that are left.
use native.Mathlib.Omega.{arith}
use Rattle.types.proofs.layout.aoi.AoiLaws.{counted, count_on}
use Rattle.types.proofs.layout.aoi.count_bools.Goals as goal
use Rattle.types.proofs.layout.aoi.count_bools.Goals.{then-is_bool, else-is_bool}

pub loop-j-preserved : goal.loop-j-preserved
loop-j-preserved c =
    let counts = count_on c.loop-j.invariant c.loop-j-test.true c.decl_at.ensures c.is_bool.ensures in
    elim c.if-is_bool.branch [
      | then-is_bool w ↦ counts (rw w.if-is_bool.true w.count-is)
      | else-is_bool w ↦ counts (rw w.if-is_bool.false (omega (arith, w.count-is)))
    ]

pub returns : goal.returns
returns c = counted c.loop-j.invariant c.loop-j-test.false
