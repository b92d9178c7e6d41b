-- `types::count_bools` meets its contract: the BOOLs of all are those so far and those of the members that are left.
use Rattle.types.proofs.layout.aoi.AoiLaws.{CountingBools}
use Rattle.types.proofs.layout.aoi.count_bools.Given as goal

abbrev pub invariant-loop-j : goal.invariant-loop-j
invariant-loop-j l = CountingBools l.types l.book l.tys l.at l.n l.count l.j
