-- `types::hosts_long` meets its contract: the names of all are those so far and those that are left.
use Rattle.types.proofs.layout.aoi.AoiLaws.{Adding}
use Rattle.types.proofs.layout.aoi.hosts_long.Given as goal

abbrev pub invariant-loop-i : goal.invariant-loop-i
invariant-loop-i l = Adding l.h l.long l.i
