-- What the loop of `types::find_type` keeps: the first of all is the first of those that are left.
use Rattle.std.proofs.Common.{◌≡◌, ◌-◌}
use Rattle.types.specs.atomics.Lookup.{named_among, row_name}
use Rattle.types.specs.book.Contents.{list_from}
use Rattle.types.proofs.atomics.lookup.find_type.Given as goal

abbrev pub invariant-loop-i : goal.invariant-loop-i
invariant-loop-i l = named_among (list_from (row_name l.types l.names) l.from (l.n - l.from)) l.name
    l.from
    ≡ named_among (list_from (row_name l.types l.names) l.i (l.n - l.i)) l.name l.i
