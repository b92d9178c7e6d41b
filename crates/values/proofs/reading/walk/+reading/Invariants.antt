-- The walk of a reading falls: a structure holds only earlier ones, so that 4 i + 4 of an array, 4 i + 3 of a
-- structure, 4 i + 2 of its members and 4 i + 1 of a row fall (document 01, "Reading"). Its loops: the rows, or the
-- elements, so far are written.
use Prim.Native.Nat.{◌+◌, ◌*◌}
use Rattle.values.proofs.reading.walk.ReadLaws.{ElementsRead, RowsRead}
use Rattle.values.proofs.reading.walk.+reading.Given as goal

abbrev pub decreases-read_elements : goal.decreases-read_elements
decreases-read_elements l = 4 * l.i + 4

abbrev pub decreases-read_members : goal.decreases-read_members
decreases-read_members l = 4 * l.i + 2

abbrev pub decreases-read_nested : goal.decreases-read_nested
decreases-read_nested l = 4 * l.i + 1

abbrev pub decreases-read_struct : goal.decreases-read_struct
decreases-read_struct l = 4 * l.i + 3

abbrev pub invariant-read_elements-loop-k : goal.invariant-read_elements-loop-k
invariant-read_elements-loop-k l =
    ElementsRead l.types l.members l.i l.n l.image l.size l.initial.out l.base l.initial.p l.initial.t
    l.k l.out l.p l.t

abbrev pub invariant-read_members-loop-j : goal.invariant-read_members-loop-j
invariant-read_members-loop-j l =
    RowsRead l.types l.members l.i l.image l.first l.j-end l.initial.out l.base l.initial.p l.initial.t
    l.j l.out l.p
    l.t
