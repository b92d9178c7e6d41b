-- The measures and the invariants of the cycle of `check_struct` (document 01, "Writing"): a nested structure has a
-- number below i, so that 4 i + 4 of an array of structures, 4 i + 3 of a structure, 4 i + 2 of its members and 4 i + 1
-- of a row fall; in each loop what is left is checked from an entry on.
use Rattle.std.proofs.Common.{◌+◌, ◌-◌, ◌*◌}
use Rattle.values.proofs.writing.check.CheckLaws.{ElementsChecked}
use Rattle.values.proofs.writing.check.CheckRows.{MembersChecked}
use Rattle.values.proofs.writing.check.+checking.Given as goal

abbrev pub decreases-check_elements : goal.decreases-check_elements
decreases-check_elements l = 4 * l.i + 4

abbrev pub decreases-check_members : goal.decreases-check_members
decreases-check_members l = 4 * l.i + 2

abbrev pub decreases-check_nested : goal.decreases-check_nested
decreases-check_nested l = 4 * l.i + 1

abbrev pub decreases-check_struct : goal.decreases-check_struct
decreases-check_struct l = 4 * l.i + 3

abbrev pub invariant-check_elements-loop-e : goal.invariant-check_elements-loop-e
invariant-check_elements-loop-e l = ElementsChecked l.types l.members l.i l.count l.s l.n l.k l.p l._e

abbrev pub invariant-check_members-loop-p : goal.invariant-check_members-loop-p
invariant-check_members-loop-p l = MembersChecked l.types l.members l.i l.s l.n l.k l.d.first l.d.count
    l.p

abbrev pub decreases-check_members-loop-p : goal.decreases-check_members-loop-p
decreases-check_members-loop-p l = l.n - l.p
