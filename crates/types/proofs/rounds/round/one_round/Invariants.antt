-- What the loop of `types::one_round` keeps: `InRound`.
use Rattle.types.proofs.rounds.OneRoundLaws.{InRound}
use Rattle.types.proofs.rounds.round.one_round.Given as goal

abbrev pub invariant-loop-i : goal.invariant-loop-i
invariant-loop-i l =
    InRound l.book l.t l.initial.tables.types l.initial.tables.members l.initial.tables.names l.initial.tys
    l.initial.done l.initial.stuck
    l.initial.tried l.initial.used l.tables.types l.tables.members l.tables.names l.tys l.done l.stuck l.tried l.used
    l.rest l.i l.at
