-- The cycle of `apply_struct`, `apply_members`, `apply_nested` and `apply_elements` meets its contracts (document 01,
-- "Writing"): the elements or the members that the entries name are set one after another, each in its own bytes, and
-- the entries that are left are still accepted; a string is a text.
use Prim.Native.Nat.{ℕ, ◌+◌, ◌*◌}
use native.Mathlib.Omega.{arith}
use mathlib.Core.Path.{refl, sym, ◌∙◌}
use Rattle.words.specs.Bits.{flat}
use Rattle.types.specs.tables.Sizes.{sizes_in}
use Rattle.values.specs.inside.writing.Passes.{left_at}
use Rattle.values.specs.inside.writing.Rows.{branches_in, tree_in}
use Rattle.values.specs.reading.Tree.{struct}
use Rattle.values.specs.writing.Writing.{write}
use Rattle.values.proofs.reading.MemberLaws.{held_earlier}
use Rattle.values.proofs.writing.ApplyLaws.{accepted_as, applied_as}
use Rattle.values.proofs.writing.SettingLaws.{Holds, all_here, all_write, one_here, one_write, rows_write, text_write}
use Rattle.values.proofs.writing.apply.SettingElements.{array_null, array_there, element, element_there}
use Rattle.values.proofs.writing.apply.SettingElements.{elements_asked, elements_close, elements_done, elements_start}
use Rattle.values.proofs.writing.apply.SettingMembers.{MemberNamed, member_there, members_asked, members_end}
use Rattle.values.proofs.writing.apply.SettingMembers.{members_here, members_start, named, named_here, named_leaf}
use Rattle.values.proofs.writing.apply.SettingMembers.{named_nested, next_small, struct_null, struct_there}
use Rattle.values.proofs.writing.apply.+applying.Goals as goal
use Rattle.values.proofs.writing.apply.+applying.Goals.{apply_members-After-payload_of, apply_nested-After-nested_in-m}

-- the elements of an array

pub apply_elements-kind_of-requires : goal.apply_elements-kind_of-requires
apply_elements-kind_of-requires t c =
    let w = elements_asked c.requires.walkable c.requires.right in (w.form, (array_there w).inside)

pub apply_elements-overflow_add-result : goal.apply_elements-overflow_add-result
apply_elements-overflow_add-result t c =
    let w = elements_asked c.requires.walkable c.requires.right in omega (arith, next_small (array_there w) w.form)

pub apply_elements-returns-then-kind_of-eq-NULL : goal.apply_elements-returns-then-kind_of-eq-NULL
apply_elements-returns-then-kind_of-eq-NULL t c =
    array_null (elements_asked c.requires.walkable c.requires.right)
    (sym c.kind_of.ensures ∙ c.if-kind_of-eq-NULL.true)

pub apply_elements-overflow_add-p : goal.apply_elements-overflow_add-p
apply_elements-overflow_add-p t c =
    let w = elements_asked c.requires.walkable c.requires.right in omega (arith, next_small (array_there w) w.form)

pub apply_elements-loop-e-init : goal.apply_elements-loop-e-init
apply_elements-loop-e-init t c =
    elements_start (elements_asked c.requires.walkable c.requires.right)
    (λ z. c.if-kind_of-eq-NULL.false (c.kind_of.ensures ∙ z)) c.struct_size-size.ensures

pub apply_elements-kind_of-requires-in-loop-e : goal.apply_elements-kind_of-requires-in-loop-e
apply_elements-kind_of-requires-in-loop-e t c =
    let v = c.loop-e.invariant in (v.asked.form, (element_there v).inside)

pub apply_elements-overflow_add-result-then-kind_of-eq-ARRAY_CLOSE :
    goal.apply_elements-overflow_add-result-then-kind_of-eq-ARRAY_CLOSE
apply_elements-overflow_add-result-then-kind_of-eq-ARRAY_CLOSE t c =
    let v = c.loop-e.invariant in omega (arith, next_small (element_there v) v.asked.form)

pub apply_elements-returns-then-kind_of-eq-ARRAY_CLOSE : goal.apply_elements-returns-then-kind_of-eq-ARRAY_CLOSE
apply_elements-returns-then-kind_of-eq-ARRAY_CLOSE t c =
    elements_close c.loop-e.invariant (sym c.kind_of-in-loop-e.ensures ∙ c.if-kind_of-eq-ARRAY_CLOSE.true)

pub apply_elements-apply_struct-p-requires : goal.apply_elements-apply_struct-p-requires
apply_elements-apply_struct-p-requires t c =
    let v = c.loop-e.invariant in
    let u = element v c.loop-e-test.true (λ z. c.if-kind_of-eq-ARRAY_CLOSE.false (c.kind_of-in-loop-e.ensures ∙ z)) in
    (omega arith, ((v.asked.walk, (u.here, v.asked.form)), u.set))

pub apply_elements-loop-e-preserved : goal.apply_elements-loop-e-preserved
apply_elements-loop-e-preserved t c =
    let u = element c.loop-e.invariant c.loop-e-test.true
    (λ z. c.if-kind_of-eq-ARRAY_CLOSE.false (c.kind_of-in-loop-e.ensures ∙ z)) in
    u.on _ _ c.apply_struct-p.ensures

pub apply_elements-overflow_add-result-2 : goal.apply_elements-overflow_add-result-2
apply_elements-overflow_add-result-2 t c =
    let v = c.loop-e.invariant in omega (arith, next_small (element_there v) v.asked.form)

pub apply_elements-returns : goal.apply_elements-returns
apply_elements-returns t c = elements_done c.loop-e.invariant c.loop-e-test.false

-- the members of a structure

pub apply_members-kind_of-requires : goal.apply_members-kind_of-requires
apply_members-kind_of-requires t c =
    let w = members_asked c.requires.walkable c.requires.right in (w.form, (struct_there w).inside)

pub apply_members-overflow_add-result : goal.apply_members-overflow_add-result
apply_members-overflow_add-result t c =
    let w = members_asked c.requires.walkable c.requires.right in omega (arith, next_small (struct_there w) w.form)

pub apply_members-returns-then-kind_of-eq-NULL : goal.apply_members-returns-then-kind_of-eq-NULL
apply_members-returns-then-kind_of-eq-NULL t c =
    struct_null (members_asked c.requires.walkable c.requires.right)
    (sym c.kind_of.ensures ∙ c.if-kind_of-eq-NULL.true)

pub apply_members-overflow_add-p : goal.apply_members-overflow_add-p
apply_members-overflow_add-p t c =
    let w = members_asked c.requires.walkable c.requires.right in omega (arith, next_small (struct_there w) w.form)

pub apply_members-loop-row-init : goal.apply_members-loop-row-init
apply_members-loop-row-init t c =
    members_start (members_asked c.requires.walkable c.requires.right)
    (λ z. c.if-kind_of-eq-NULL.false (c.kind_of.ensures ∙ z)) c.type_row-first.ensures refl

pub apply_members-kind_of-requires-in-loop-row : goal.apply_members-kind_of-requires-in-loop-row
apply_members-kind_of-requires-in-loop-row t c =
    let v = c.loop-row.invariant in (v.asked.form, (member_there v).inside)

pub apply_members-overflow_add-result-2 : goal.apply_members-overflow_add-result-2
apply_members-overflow_add-result-2 t c =
    let v = c.loop-row.invariant in omega (arith, next_small (member_there v) v.asked.form)

pub apply_members-returns : goal.apply_members-returns
apply_members-returns t c =
    members_end c.loop-row.invariant (sym c.kind_of-in-loop-row.ensures ∙ c.loop-row-test.false)

pub apply_members-payload_of-requires : goal.apply_members-payload_of-requires
apply_members-payload_of-requires t c =
    let v = c.loop-row.invariant in (v.asked.form, (member_there v).inside)

-- the entry names a visible member
named_is : (t : ℕ) (c : apply_members-After-payload_of t)
    → MemberNamed c.args.types.now c.args.members.now c.args.i c.args.s.now c.args.k c.args.image.now
    c.args.base
    c.type_row-first.result.first c.loop-row.p c.loop-row.image (c.type_row-first.result.first + c.payload_of.result)
named_is t c =
    named c.loop-row.invariant (λ z. c.loop-row-test.true (c.kind_of-in-loop-row.ensures ∙ z))
    c.payload_of.ensures

pub apply_members-overflow_add-row : goal.apply_members-overflow_add-row
apply_members-overflow_add-row t c =
    let u = named_is t (goal.at.apply_members-overflow_add-row t c).After-payload_of in omega (arith, u.row_of.inside)

pub apply_members-is_nested-requires : goal.apply_members-is_nested-requires
apply_members-is_nested-requires t c =
    (named_is t (goal.at.apply_members-is_nested-requires t c).After-payload_of).row_of.inside

pub apply_members-overflow_add-p-then-is_nested : goal.apply_members-overflow_add-p-then-is_nested
apply_members-overflow_add-p-then-is_nested t c =
    let v = c.loop-row.invariant in omega (arith, next_small (member_there v) v.asked.form)

pub apply_members-apply_nested-p-requires : goal.apply_members-apply_nested-p-requires
apply_members-apply_nested-p-requires t c =
    let v = c.loop-row.invariant in
    let u = named_is t (goal.at.apply_members-apply_nested-p-requires t c).After-payload_of in
    let nested = named_nested v u c.is_nested.ensures c.if-is_nested.true in
    (omega arith, ((v.asked.walk, (nested, (members_here v, v.asked.form))), u.set))

pub apply_members-loop-row-preserved-then-is_nested : goal.apply_members-loop-row-preserved-then-is_nested
apply_members-loop-row-preserved-then-is_nested t c =
    (named_is t (goal.at.apply_members-loop-row-preserved-then-is_nested t c).After-payload_of).on _ _
    c.apply_nested-p.ensures

pub apply_members-overflow_add-p-else-is_nested : goal.apply_members-overflow_add-p-else-is_nested
apply_members-overflow_add-p-else-is_nested t c =
    let v = c.loop-row.invariant in omega (arith, next_small (member_there v) v.asked.form)

pub apply_members-set_leaf-p-requires-clause-formed : goal.apply_members-set_leaf-p-requires-clause-formed
apply_members-set_leaf-p-requires-clause-formed t c =
    let v = c.loop-row.invariant in
    let u = named_is t (goal.at.apply_members-set_leaf-p-requires-clause-formed t c).After-payload_of in
    let leaf = named_leaf v u c.is_nested.ensures c.if-is_nested.false in
    (v.asked.form, (leaf, (sizes_in c.args.types.now, named_here v u c.is_nested.ensures)))

pub apply_members-set_leaf-p-requires-clause-right : goal.apply_members-set_leaf-p-requires-clause-right
apply_members-set_leaf-p-requires-clause-right t c =
    let u = named_is t (goal.at.apply_members-set_leaf-p-requires-clause-right t c).After-payload_of in
    (tree_in c.args.types.now c.args.members.now, u.set)

pub apply_members-loop-row-smaller : goal.apply_members-loop-row-smaller
apply_members-loop-row-smaller t c =
    let u = named_is t (goal.at.apply_members-loop-row-smaller t c).After-payload_of in
    omega (arith, (c.set_leaf-p.ensures (tree_in c.args.types.now c.args.members.now)).further, u.inside)

pub apply_members-loop-row-preserved : goal.apply_members-loop-row-preserved
apply_members-loop-row-preserved t c =
    (named_is t (goal.at.apply_members-loop-row-preserved t c).After-payload_of).on _ _
    (c.set_leaf-p.ensures (tree_in c.args.types.now c.args.members.now))

-- what a row of a structure holds

held : (t : ℕ) (c : apply_nested-After-nested_in-m t)
    → Holds c.args.types.now c.args.members.now c.args.i c.args.row c.args.base c.args.image.now
    c.nested_in-m.result
held t c =
    let p = c.requires.walkable.1 in record { nested = p.0; here = p.1.0; held = c.nested_in-m.ensures }

pub apply_nested-apply_struct-requires : goal.apply_nested-apply_struct-requires
apply_nested-apply_struct-requires t c =
    let w = held t (goal.at.apply_nested-apply_struct-requires t c).After-nested_in-m in
    let p = c.requires.walkable in
    let same = one_write w c.if-m-eq0.true (left_at c.args.s.now c.args.k) (flat c.args.image.now) in (
      omega (arith, held_earlier w.nested w.held),
      ((p.0, (one_here w c.if-m-eq0.true, p.1.1.1)), accepted_as same c.requires.right),
    )

pub apply_nested-returns-then-m-eq0 : goal.apply_nested-returns-then-m-eq0
apply_nested-returns-then-m-eq0 t c =
    let w = held t (goal.at.apply_nested-returns-then-m-eq0 t c).After-nested_in-m in
    applied_as (one_write w c.if-m-eq0.true (left_at c.args.s.now c.args.k) (flat c.args.image.now))
    c.apply_struct.ensures

pub apply_nested-apply_elements-requires : goal.apply_nested-apply_elements-requires
apply_nested-apply_elements-requires t c =
    let w = held t (goal.at.apply_nested-apply_elements-requires t c).After-nested_in-m in
    let p = c.requires.walkable in
    let same = all_write w c.if-m-eq0.false (left_at c.args.s.now c.args.k) (flat c.args.image.now) in (
      omega (arith, held_earlier w.nested w.held),
      ((p.0, (all_here w c.if-m-eq0.false, p.1.1.1)), accepted_as same c.requires.right),
    )

pub apply_nested-returns : goal.apply_nested-returns
apply_nested-returns t c =
    let w = held t (goal.at.apply_nested-returns t c).After-nested_in-m in
    applied_as (all_write w c.if-m-eq0.false (left_at c.args.s.now c.args.k) (flat c.args.image.now))
    c.apply_elements.ensures

-- a structure

pub apply_struct-set_text-requires-clause-right : goal.apply_struct-set_text-requires-clause-right
apply_struct-set_text-requires-clause-right t c =
    let p = c.requires.walkable in
    accepted_as
    (text_write p.0 p.1.0 c.type_row-d.ensures c.is_string.ensures c.if-is_string.true refl
    c.capacity_at-capacity.ensures (8 * c.args.base) (left_at c.args.s.now c.args.k) (flat c.args.image.now))
    c.requires.right

pub apply_struct-returns-then-is_string : goal.apply_struct-returns-then-is_string
apply_struct-returns-then-is_string t c =
    let p = c.requires.walkable in
    applied_as
    (text_write p.0 p.1.0 c.type_row-d.ensures c.is_string.ensures c.if-is_string.true refl
    c.capacity_at-capacity.ensures (8 * c.args.base) (left_at c.args.s.now c.args.k) (flat c.args.image.now))
    c.set_text.ensures

pub apply_struct-apply_members-requires : goal.apply_struct-apply_members-requires
apply_struct-apply_members-requires t c =
    let p = c.requires.walkable in
    let same = rows_write p.0 p.1.0 c.type_row-d.ensures c.is_string.ensures c.if-is_string.false (8 * c.args.base)
    (left_at c.args.s.now c.args.k) (flat c.args.image.now) in
    (omega arith, (p, accepted_as same c.requires.right))

pub apply_struct-returns : goal.apply_struct-returns
apply_struct-returns t c =
    let p = c.requires.walkable in
    let a = c.args in
    let same = rows_write p.0 p.1.0 c.type_row-d.ensures c.is_string.ensures c.if-is_string.false (8 * a.base)
    (left_at a.s.now a.k) (flat a.image.now) in
    applied_as
    {g = write (struct (8 * sizes_in a.types.now a.i) (branches_in a.types.now a.members.now a.i))
    (8 * a.base)
    (left_at a.s.now a.k)}
    same c.apply_members.ensures
