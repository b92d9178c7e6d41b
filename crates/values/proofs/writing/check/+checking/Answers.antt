-- The cycle of `check_elements`, `check_members`, `check_nested` and `check_struct` meets its contracts (document 01,
-- "Writing"): null, or elements or members up to the close, by what is left of them; a row holds a structure or an
-- array of structures; a string takes one entry, any other structure its members.
use Prim.Native.Nat.{ℕ}
use native.Mathlib.Omega.{arith}
use mathlib.Core.Path.{refl, sym, ◌∙◌}
use Rattle.std.proofs.lemmas.Result.{err_from_is_err_and}
use Rattle.values.proofs.reading.MemberLaws.{nested_row}
use Rattle.values.proofs.writing.check.CheckLaws.{array_null, array_other, elements_done, elements_inside}
use Rattle.values.proofs.writing.check.CheckLaws.{elements_end, elements_on, elements_refused, elements_short}
use Rattle.values.proofs.writing.check.CheckLaws.{elements_start, entry_small, one_checked, some_checked}
use Rattle.values.proofs.writing.check.CheckLaws.{struct_checked, struct_null, struct_other, text_checked}
use Rattle.values.proofs.writing.check.CheckRows.{RowNamed, leaf_row, members_bad, members_done, members_further}
use Rattle.values.proofs.writing.check.CheckRows.{members_inside, members_on, members_refused, members_short}
use Rattle.values.proofs.writing.check.CheckRows.{members_start, members_unseen, row_named}
use Rattle.values.proofs.writing.check.+checking.Goals as goal
use Rattle.values.proofs.writing.check.+checking.Goals.{check_members-In-Some}

-- the elements of an array

pub check_elements-overflow_add-result : goal.check_elements-overflow_add-result
check_elements-overflow_add-result t c = let p = c.requires.well_formed in omega (arith, entry_small p.0 p.1)

pub check_elements-returns-in-0 : goal.check_elements-returns-in-0
check_elements-returns-in-0 t c = array_null c.requires.well_formed.0 c.kind_at.ensures _ _ c.in-0.is

pub check_elements-overflow_cast-result : goal.check_elements-overflow_cast-result
check_elements-overflow_cast-result t c = let p = c.requires.well_formed in omega (arith, entry_small p.0 p.1)

pub check_elements-returns-in_default : goal.check_elements-returns-in_default
check_elements-returns-in_default t c =
    let p = c.requires.well_formed in array_other p.0 c.kind_at.ensures p.1 (omega arith) _ _ (omega arith)

pub check_elements-overflow_add-p : goal.check_elements-overflow_add-p
check_elements-overflow_add-p t c = let p = c.requires.well_formed in omega (arith, entry_small p.0 p.1)

pub check_elements-loop-e-init : goal.check_elements-loop-e-init
check_elements-loop-e-init t c =
    let w = c.requires.walkable in
    elements_start c.requires.well_formed.0 w.0 w.1 c.kind_at.ensures c.in-10.is

pub check_elements-overflow_cast-result-then-n-p : goal.check_elements-overflow_cast-result-then-n-p
check_elements-overflow_cast-result-then-n-p t c =
    let v = c.loop-e.invariant in omega (arith, entry_small v.told (elements_inside v))

pub check_elements-returns-then-n-p : goal.check_elements-returns-then-n-p
check_elements-returns-then-n-p t c = elements_short c.loop-e.invariant c.if-n-p.true

pub check_elements-returns-then-kind_of-eq-ARRAY_CLOSE : goal.check_elements-returns-then-kind_of-eq-ARRAY_CLOSE
check_elements-returns-then-kind_of-eq-ARRAY_CLOSE t c =
    elements_done c.loop-e.invariant c.if-n-p.false c.kind_of.ensures c.if-kind_of-eq-ARRAY_CLOSE.true

pub check_elements-returns-in_err-p : goal.check_elements-returns-in_err-p
check_elements-returns-in_err-p t c =
    let p = err_from_is_err_and c.from_residual.result c.from_residual.ensures.1 in
    rw (p.1, p.2)
    (elements_refused c.loop-e.invariant c.if-n-p.false c.kind_of.ensures c.if-kind_of-eq-ARRAY_CLOSE.false
    (omega (arith, c.loop-e-test.true)) c.in_err-p.ensures)

pub check_elements-loop-e-preserved : goal.check_elements-loop-e-preserved
check_elements-loop-e-preserved t c =
    elements_on c.loop-e.invariant c.if-n-p.false c.kind_of.ensures c.if-kind_of-eq-ARRAY_CLOSE.false
    (omega (arith, c.loop-e-test.true)) c.in_ok-p.ensures

pub check_elements-close_at-requires : goal.check_elements-close_at-requires
check_elements-close_at-requires t c = let v = c.loop-e.invariant in (v.told, elements_inside v)

pub check_elements-returns : goal.check_elements-returns
check_elements-returns t c = elements_end c.loop-e.invariant (omega arith) c.close_at.ensures

-- the members of a structure

pub check_members-overflow_add-result : goal.check_members-overflow_add-result
check_members-overflow_add-result t c = let p = c.requires.well_formed in omega (arith, entry_small p.0 p.1)

pub check_members-returns-in-0 : goal.check_members-returns-in-0
check_members-returns-in-0 t c = struct_null c.requires.well_formed.0 c.kind_at.ensures _ _ c.in-0.is

pub check_members-overflow_cast-result : goal.check_members-overflow_cast-result
check_members-overflow_cast-result t c = let p = c.requires.well_formed in omega (arith, entry_small p.0 p.1)

pub check_members-returns-in_default : goal.check_members-returns-in_default
check_members-returns-in_default t c =
    let p = c.requires.well_formed in struct_other p.0 c.kind_at.ensures p.1 (omega arith) _ _ (omega arith)

pub check_members-overflow_add-p : goal.check_members-overflow_add-p
check_members-overflow_add-p t c = let p = c.requires.well_formed in omega (arith, entry_small p.0 p.1)

pub check_members-loop-p-init : goal.check_members-loop-p-init
check_members-loop-p-init t c =
    let w = c.requires.walkable in
    members_start c.requires.well_formed.0 w.0 w.1 c.kind_at.ensures c.in-8.is c.type_row-d.ensures

pub check_members-returns-in-9 : goal.check_members-returns-in-9
check_members-returns-in-9 t c =
    members_done c.loop-p.invariant c.loop-p-test.true c.kind_of.ensures c.in-9.is

-- the row that the entry names
named : (t : ℕ) (c : check_members-In-Some t)
    → RowNamed c.args.types.now c.args.members.now c.args.i c.args.s.now c.loop-p.p c.in-Some.row
named t c =
    row_named c.loop-p.invariant c.loop-p-test.true c.kind_of.ensures c.in-7.is c.payload_of-j.ensures
    c.in-Some.ensures

pub check_members-overflow_cast-result-in_default-kind_of : goal.check_members-overflow_cast-result-in_default-kind_of
check_members-overflow_cast-result-in_default-kind_of t c =
    let v = c.loop-p.invariant in omega (arith, entry_small v.told (members_inside v))

pub check_members-returns-in_default-kind_of : goal.check_members-returns-in_default-kind_of
check_members-returns-in_default-kind_of t c =
    members_bad c.loop-p.invariant c.loop-p-test.true c.kind_of.ensures (omega arith) (omega arith)

pub check_members-overflow_cast-result-in_default-visible_row :
    goal.check_members-overflow_cast-result-in_default-visible_row
check_members-overflow_cast-result-in_default-visible_row t c =
    let v = c.loop-p.invariant in omega (arith, entry_small v.told (members_inside v))

pub check_members-returns-in_default-visible_row : goal.check_members-returns-in_default-visible_row
check_members-returns-in_default-visible_row t c =
    members_unseen c.loop-p.invariant c.loop-p-test.true c.kind_of.ensures c.in-7.is c.payload_of-j.ensures
    (sym c.in_default-visible_row.is ∙ c.visible_row.ensures)

pub check_members-is_nested-requires : goal.check_members-is_nested-requires
check_members-is_nested-requires t c =
    (named t (goal.at.check_members-is_nested-requires t c).In-Some).row_of.inside

pub check_members-check_nested-requires : goal.check_members-check_nested-requires
check_members-check_nested-requires t c =
    let row = named t (goal.at.check_members-check_nested-requires t c).In-Some in
    let v = c.loop-p.invariant in
    let nested = nested_row row.row_of (sym c.is_nested.ensures ∙ c.if-is_nested.true) in
    (omega arith, ((v.walk, nested), (v.told, omega arith)))

pub check_members-returns-in_err-p : goal.check_members-returns-in_err-p
check_members-returns-in_err-p t c =
    let p = err_from_is_err_and c.from_residual.result c.from_residual.ensures.1 in
    let row = named t (goal.at.check_members-returns-in_err-p t c).In-Some in
    rw (p.1, p.2) (members_refused c.loop-p.invariant row c.in_err-p.ensures)

pub check_members-loop-p-smaller-in_ok-p : goal.check_members-loop-p-smaller-in_ok-p
check_members-loop-p-smaller-in_ok-p t c =
    let row = named t (goal.at.check_members-loop-p-smaller-in_ok-p t c).In-Some in
    omega (arith, members_further c.loop-p.invariant row c.in_ok-p.ensures)

pub check_members-loop-p-preserved-in_ok-p : goal.check_members-loop-p-preserved-in_ok-p
check_members-loop-p-preserved-in_ok-p t c =
    let row = named t (goal.at.check_members-loop-p-preserved-in_ok-p t c).In-Some in
    members_on c.loop-p.invariant row c.in_ok-p.ensures

pub check_members-check_leaf-requires-clause-leaf_row : goal.check_members-check_leaf-requires-clause-leaf_row
check_members-check_leaf-requires-clause-leaf_row t c =
    let row = named t (goal.at.check_members-check_leaf-requires-clause-leaf_row t c).In-Some in
    leaf_row row (sym c.is_nested.ensures ∙ c.if-is_nested.false)

pub check_members-returns-in_err-p-2 : goal.check_members-returns-in_err-p-2
check_members-returns-in_err-p-2 t c =
    let p = err_from_is_err_and c.from_residual-in_err-p-2.result c.from_residual-in_err-p-2.ensures.1 in
    let row = named t (goal.at.check_members-returns-in_err-p-2 t c).In-Some in
    rw (p.1, p.2) (members_refused c.loop-p.invariant row (c.in_err-p-2.ensures _))

pub check_members-loop-p-smaller : goal.check_members-loop-p-smaller
check_members-loop-p-smaller t c =
    let row = named t (goal.at.check_members-loop-p-smaller t c).In-Some in
    omega (arith, members_further c.loop-p.invariant row (c.in_ok-p-2.ensures _))

pub check_members-loop-p-preserved : goal.check_members-loop-p-preserved
check_members-loop-p-preserved t c =
    let row = named t (goal.at.check_members-loop-p-preserved t c).In-Some in
    members_on c.loop-p.invariant row (c.in_ok-p-2.ensures _)

pub check_members-overflow_cast-result-2 : goal.check_members-overflow_cast-result-2
check_members-overflow_cast-result-2 t c =
    let v = c.loop-p.invariant in omega (arith, entry_small v.told (members_inside v))

pub check_members-returns : goal.check_members-returns
check_members-returns t c = members_short c.loop-p.invariant c.loop-p-test.false

-- the row of a structure

pub check_nested-returns-then-m-eq0 : goal.check_nested-returns-then-m-eq0
check_nested-returns-then-m-eq0 t c =
    one_checked c.requires.walkable.1 c.nested_in-m.ensures c.if-m-eq0.true c.check_struct.ensures

pub check_nested-returns : goal.check_nested-returns
check_nested-returns t c =
    some_checked c.requires.walkable.1 c.nested_in-m.ensures c.if-m-eq0.false c.check_elements.ensures

-- a structure

pub check_struct-returns-then-is_string : goal.check_struct-returns-then-is_string
check_struct-returns-then-is_string t c =
    let w = c.requires.walkable in
    text_checked w.0 w.1 c.type_row-d.ensures c.is_string.ensures c.if-is_string.true refl
    c.capacity_at-capacity.ensures c.check_text.ensures

pub check_struct-returns : goal.check_struct-returns
check_struct-returns t c =
    let w = c.requires.walkable in
    struct_checked w.0 w.1 c.type_row-d.ensures c.is_string.ensures c.if-is_string.false c.check_members.ensures
