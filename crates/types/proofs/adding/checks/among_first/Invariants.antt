-- What the loop of `types::among_first` keeps: a name is among all where it is among those that are left.
use Rattle.std.proofs.Common.{◌≡◌}
use Rattle.types.specs.adding.Checks.{among}
use Rattle.types.specs.inside.adding.Checks.{member_name, names_before}
use Rattle.types.proofs.adding.checks.among_first.Given as goal

abbrev pub invariant-loop-k : goal.invariant-loop-k
invariant-loop-k l =
    among l.name (names_before (member_name l.book l.at) l.j)
    ≡ among l.name (names_before (member_name l.book l.at) l.k)
