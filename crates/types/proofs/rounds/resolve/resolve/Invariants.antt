-- What the loop of `types::resolve` keeps: the words of all are those stored so far and those that are left.
use Rattle.types.specs.atomics.Lookup.{row_names}
use Rattle.types.proofs.rounds.ResolveLaws.{WordsLeft}
use Rattle.types.proofs.rounds.resolve.resolve.Given as goal

abbrev pub invariant-loop-j : goal.invariant-loop-j
invariant-loop-j l = WordsLeft (row_names l.tables.types l.tables.names l.known) l.book l.at l.n l.initial.tys l.tys l.j
