-- What the loop of `types::check_members` keeps: `Checking`.
use Rattle.types.proofs.adding.checks.CheckLaws.{Checking}
use Rattle.types.proofs.adding.checks.check_members.Given as goal

abbrev pub invariant-loop-j : goal.invariant-loop-j
invariant-loop-j l = Checking l.book l.aoi l.at l.n l.seen l.j
