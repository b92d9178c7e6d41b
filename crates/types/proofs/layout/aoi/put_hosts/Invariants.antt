-- `types::put_hosts` meets its contract. The invariant is `Hosting`.
use Rattle.types.proofs.layout.aoi.AoiLaws.{Hosting}
use Rattle.types.proofs.layout.aoi.put_hosts.Given as goal

abbrev pub invariant-loop-i : goal.invariant-loop-i
invariant-loop-i l = Hosting l.h l.row l.place l.initial.members l.initial.names l.members l.names l.at l.i
