-- The measures and the invariants of the cycle of `text_struct`, `text_members`, `text_nested` and `text_elements`
-- (document 01, "Value stream"): a nested structure has a number below i, so that 4 i + 4 of elements, 4 i + 3 of a
-- structure, 4 i + 2 of its members and 4 i + 1 of a row fall.
use Rattle.std.proofs.Common.{◌*◌, ◌+◌}
use Rattle.values.specs.inside.reading.Walk.{element_by, struct_out}
use Rattle.values.proofs.stream.TextCountLaws.{RowsOfTexts, Summed}
use Rattle.values.proofs.stream.lengths.+measuring.Given as goal

abbrev pub decreases-text_elements : goal.decreases-text_elements
decreases-text_elements l = 4 * l.i + 4

abbrev pub decreases-text_members : goal.decreases-text_members
decreases-text_members l = 4 * l.i + 2

abbrev pub decreases-text_nested : goal.decreases-text_nested
decreases-text_nested l = 4 * l.i + 1

abbrev pub decreases-text_struct : goal.decreases-text_struct
decreases-text_struct l = 4 * l.i + 3

-- the texts of the first k elements are summed
abbrev pub invariant-text_elements-loop-k : goal.invariant-text_elements-loop-k
invariant-text_elements-loop-k l =
    Summed l.room (element_by l.types l.members (struct_out l.types l.members) l.i l.image)
    l.n l.k l.t

-- the texts of the first j rows are summed
abbrev pub invariant-text_members-loop-j : goal.invariant-text_members-loop-j
invariant-text_members-loop-j l = RowsOfTexts l.types l.members l.i l.room l.image l.j l.t
