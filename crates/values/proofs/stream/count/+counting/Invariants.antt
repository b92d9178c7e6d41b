-- The measures and the invariant of the cycle of `count_structs`, `count_struct`, `count_members` and `count_nested`
-- (document 01, "Value stream"): a nested structure has a number below i, so that 4 i + 4 of structures, 4 i + 3 of a
-- structure, 4 i + 2 of its members and 4 i + 1 of a row fall.
use Rattle.std.proofs.Common.{◌*◌, ◌+◌}
use Rattle.values.proofs.stream.count.CountRows.{RowsCounted}
use Rattle.values.proofs.stream.count.+counting.Given as goal

abbrev pub decreases-count_members : goal.decreases-count_members
decreases-count_members l = 4 * l.i + 2

abbrev pub decreases-count_nested : goal.decreases-count_nested
decreases-count_nested l = 4 * l.i + 1

abbrev pub decreases-count_struct : goal.decreases-count_struct
decreases-count_struct l = 4 * l.i + 3

abbrev pub decreases-count_structs : goal.decreases-count_structs
decreases-count_structs l = 4 * l.i + 4

-- the sum of the first j rows is exact for every image where it is at most `most`, and else both are above it
abbrev pub invariant-count_members-loop-j : goal.invariant-count_members-loop-j
invariant-count_members-loop-j l =
    RowsCounted l.types l.members l.i l.from l.most l.first l.n l.initial.texts l.texts l.sum l.j
