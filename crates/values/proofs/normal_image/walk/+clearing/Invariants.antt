-- The measures and the invariants of the cycle of `normal_struct`, `sweep`, `normal_member` and `normal_elements`
-- (document 01, "Normal image"): a nested structure has a number below i, so that 4 i + 4 of elements, 4 i + 3 of a
-- structure, 4 i + 2 of its sweep and 4 i + 1 of a member fall.
use Rattle.std.proofs.Common.{◌*◌, ◌+◌}
use Rattle.values.proofs.normal_image.walk.ElementsMade.{ElementsNormal}
use Rattle.values.proofs.normal_image.walk.SweepRows.{Sweeping}
use Rattle.values.proofs.normal_image.walk.+clearing.Given as goal

abbrev pub decreases-normal_elements : goal.decreases-normal_elements
decreases-normal_elements l = 4 * l.i + 4

abbrev pub decreases-normal_member : goal.decreases-normal_member
decreases-normal_member l = 4 * l.i + 1

abbrev pub decreases-normal_struct : goal.decreases-normal_struct
decreases-normal_struct l = 4 * l.i + 3

abbrev pub decreases-sweep : goal.decreases-sweep
decreases-sweep l = 4 * l.i + 2

-- the first e elements are normal
abbrev pub invariant-normal_elements-loop-e : goal.invariant-normal_elements-loop-e
invariant-normal_elements-loop-e l =
    ElementsNormal l.types l.members l.i l.count l.initial.image l.base l.size l.e l.image

-- the plain members of the first k rows are normal, up to byte c
abbrev pub invariant-sweep-loop-k : goal.invariant-sweep-loop-k
invariant-sweep-loop-k l =
    Sweeping l.types l.members l.i l.initial.image l.base l.first l.k-end l.image l.c l.k
