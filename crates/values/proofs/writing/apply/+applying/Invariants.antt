-- The measures and the invariants of the cycle of `apply_struct` (document 01, "Writing"): a nested structure has a
-- number below i, so that 4 i + 4 of elements, 4 i + 3 of a structure, 4 i + 2 of its members and 4 i + 1 of a row
-- fall; in each loop what comes before an entry is set, and the entries that are left are still accepted.
use Rattle.std.proofs.Common.{◌+◌, ◌-◌, ◌*◌}
use Rattle.values.specs.stream.Form.{count_in}
use Rattle.values.proofs.writing.apply.SettingElements.{ElementsSet}
use Rattle.values.proofs.writing.apply.SettingMembers.{MembersSet}
use Rattle.values.proofs.writing.apply.+applying.Given as goal

abbrev pub decreases-apply_elements : goal.decreases-apply_elements
decreases-apply_elements l = 4 * l.i + 4

abbrev pub decreases-apply_members : goal.decreases-apply_members
decreases-apply_members l = 4 * l.i + 2

abbrev pub decreases-apply_nested : goal.decreases-apply_nested
decreases-apply_nested l = 4 * l.i + 1

abbrev pub decreases-apply_struct : goal.decreases-apply_struct
decreases-apply_struct l = 4 * l.i + 3

abbrev pub invariant-apply_elements-loop-e : goal.invariant-apply_elements-loop-e
invariant-apply_elements-loop-e l =
    ElementsSet l.types l.members l.i l.count l.s l.k l.initial.image l.base l.size l.p l.e l.image

abbrev pub invariant-apply_members-loop-row : goal.invariant-apply_members-loop-row
invariant-apply_members-loop-row l =
    MembersSet l.types l.members l.i l.s l.k l.initial.image l.base l.first l.p l.image

abbrev pub decreases-apply_members-loop-row : goal.decreases-apply_members-loop-row
decreases-apply_members-loop-row l = count_in l.s - l.p
