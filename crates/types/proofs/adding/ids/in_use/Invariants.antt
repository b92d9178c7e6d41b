-- What the loop of `types::in_use` keeps: an id is in use among all rows if it is among those that are left.
use Rattle.std.proofs.Common.{◌≡◌, ◌-◌}
use Rattle.types.specs.adding.Ids.{id_word, in_use}
use Rattle.types.specs.book.Contents.{list_from}
use Rattle.types.proofs.adding.ids.in_use.Given as goal

abbrev pub invariant-loop-i : goal.invariant-loop-i
invariant-loop-i l =
    in_use l.id (list_from (id_word l.types) 0 l.n) ≡ in_use l.id (list_from (id_word l.types) l.i (l.n - l.i))
