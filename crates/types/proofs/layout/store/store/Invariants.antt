-- What the first j declared members stored is what the definition says of them.
use Rattle.types.proofs.layout.store.Storing.{Storing}
use Rattle.types.proofs.layout.store.store.Given as goal

abbrev pub invariant-loop-j : goal.invariant-loop-j
invariant-loop-j l =
    Storing l.types l.book l.tys l.name l.at l.n l.initial.next.cursor l.initial.members l.initial.names
    l.initial.next.row l.initial.next.place l.next.cursor l.members l.names l.next.row l.next.place l.j
