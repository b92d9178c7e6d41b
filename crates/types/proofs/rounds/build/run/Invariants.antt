-- What the loop of `types::run` keeps: `Going`.
use Rattle.std.proofs.Common.{List}
use Rattle.types.specs.inside.rounds.OneRound.{Reached}
use Rattle.types.specs.inside.tables.Registry.{Stands}
use Rattle.types.specs.tables.Defs.{Def}
use Rattle.types.proofs.rounds.build.BuildLaws.{Going}
use Rattle.types.proofs.rounds.build.run.Given as goal

abbrev pub invariant-loop-left : goal.invariant-loop-left
invariant-loop-left l =
    (start : List Def) → Reached l.book start
    → Stands start l.initial.tables.types l.initial.tables.members l.initial.tables.names l.initial.u
    → Going l.book start l.t l.initial.tys l.initial.done l.initial.stuck l.initial.tried
    l.tables.types l.tables.members l.tables.names l.tys l.done l.stuck l.tried l.u l.left

abbrev pub decreases-loop-left : goal.decreases-loop-left
decreases-loop-left l = l.left
