-- The cycle of `normal_struct`, `sweep`, `normal_member` and `normal_elements` meets its contracts (document 01,
-- "Normal image"): a string is a text; any other structure's BOOLs are kept and put back around the sweep of its plain
-- members; an array's elements are made normal one after another.
use Rattle.std.proofs.Common.{arith, refl, sym, ◌∙◌, ℕ, ◌+◌, ◌-◌}
use Rattle.values.proofs.normal_image.FilledLaws.{zeros_filled}
use Rattle.values.proofs.normal_image.walk.ElementsMade.{element_made, elements_done, elements_none, elements_start}
use Rattle.values.proofs.normal_image.walk.MemberMade.{PlainHere, all_here, all_onward, atomics_end, atomics_here}
use Rattle.values.proofs.normal_image.walk.MemberMade.{atomics_onward, gap_filled, one_here}
use Rattle.values.proofs.normal_image.walk.MemberMade.{one_onward, plain_after, struct_below}
use Rattle.values.proofs.normal_image.walk.StructSteps.{here_after, members_made, rows_few, rows_here, string_made}
use Rattle.values.proofs.normal_image.walk.SweepRows.{size_of_type, sweep_done, sweep_here, sweep_low, sweep_on}
use Rattle.values.proofs.normal_image.walk.SweepRows.{sweep_past, sweep_plain, sweep_start}
use Rattle.values.proofs.normal_image.walk.+clearing.Goals as goal
use Rattle.values.proofs.normal_image.walk.+clearing.Goals.{sweep-then-is_plain, sweep-else-is_plain}
use Rattle.values.proofs.normal_image.walk.+clearing.Goals.{normal_member-After-member_row-m}

-- ---- elements

pub normal_elements-returns-then-size-eq0 : goal.normal_elements-returns-then-size-eq0
normal_elements-returns-then-size-eq0 t c =
    elements_none _ c.requires.0 c.requires.1.low c.struct_size-size.ensures c.if-size-eq0.true _

pub normal_elements-loop-e-init : goal.normal_elements-loop-e-init
normal_elements-loop-e-init t c = elements_start c.struct_size-size.ensures

pub normal_elements-loop-e-preserved : goal.normal_elements-loop-e-preserved
normal_elements-loop-e-preserved t c =
    element_made c.requires.0 c.requires.1 c.loop-e.invariant c.loop-e-test.true _ c.normal_struct.ensures
    c.normal_struct.auto.image

pub normal_elements-returns : goal.normal_elements-returns
normal_elements-returns t c = elements_done c.requires.0 c.requires.1 c.loop-e.invariant c.loop-e-test.false

-- ---- a member

-- the member was read
held : (t : ℕ) (c : normal_member-After-member_row-m t)
    → PlainHere c.args.types.now c.args.members.now c.args.i c.args.row c.args.base c.args.c
    c.args.image.now
    c.member_row-m.result c.member_row-m.result.offset c.member_row-m.result.count
held t c =
    record {
      sweepable = c.requires.0;
      row_of = c.requires.1.0;
      here = c.requires.1.1;
      is = c.member_row-m.ensures;
      at = refl;
      count = refl;
    }

pub normal_member-slice_bounds-fill-count : goal.normal_member-slice_bounds-fill-count
normal_member-slice_bounds-fill-count t c =
    let w = held t (goal.at.normal_member-slice_bounds-fill-count t c).After-member_row-m in
    omega (arith, plain_after w)

pub normal_member-slice_bounds-fill-start : goal.normal_member-slice_bounds-fill-start
normal_member-slice_bounds-fill-start t c =
    let w = held t (goal.at.normal_member-slice_bounds-fill-start t c).After-member_row-m in
    omega (arith, plain_after w)

-- ---- its atomics

pub normal_member-normal_atomics-requires : goal.normal_member-normal_atomics-requires
normal_member-normal_atomics-requires t c =
    let w = held t (goal.at.normal_member-normal_atomics-requires t c).After-member_row-m in
    let gap = gap_filled w (c.fill.ensures.after (λ y h. h)) in
    atomics_here w c.in-Atomic.is gap

pub normal_member-overflow_mul-result : goal.normal_member-overflow_mul-result
normal_member-overflow_mul-result t c =
    let w = held t (goal.at.normal_member-overflow_mul-result t c).After-member_row-m in
    omega (arith, atomics_end w c.in-Atomic.is c.size.ensures c.times_of.ensures)

pub normal_member-overflow_add-result : goal.normal_member-overflow_add-result
normal_member-overflow_add-result t c =
    let w = held t (goal.at.normal_member-overflow_add-result t c).After-member_row-m in
    omega (arith, atomics_end w c.in-Atomic.is c.size.ensures c.times_of.ensures)

pub normal_member-returns-in-Atomic : goal.normal_member-returns-in-Atomic
normal_member-returns-in-Atomic t c =
    let w = held t (goal.at.normal_member-returns-in-Atomic t c).After-member_row-m in
    let gap = gap_filled w (c.fill.ensures.after (λ y h. h)) in
    atomics_onward w c.in-Atomic.is c.size.ensures c.times_of.ensures gap c.normal_atomics.ensures

-- ---- its structure, or its array of structures

pub normal_member-normal_struct-requires : goal.normal_member-normal_struct-requires
normal_member-normal_struct-requires t c =
    let w = held t (goal.at.normal_member-normal_struct-requires t c).After-member_row-m in
    let gap = gap_filled w (c.fill.ensures.after (λ y h. h)) in (
      omega (arith, struct_below w c.in-Struct.is),
      (c.requires.0, one_here w c.in-Struct.is c.if-count-eq0.true gap),
    )

pub normal_member-returns-in-Struct : goal.normal_member-returns-in-Struct
normal_member-returns-in-Struct t c =
    let w = held t (goal.at.normal_member-returns-in-Struct t c).After-member_row-m in
    let gap = gap_filled w (c.fill.ensures.after (λ y h. h)) in
    one_onward w c.in-Struct.is c.if-count-eq0.true c.struct_size.ensures gap
    c.normal_struct.ensures

pub normal_member-normal_elements-requires : goal.normal_member-normal_elements-requires
normal_member-normal_elements-requires t c =
    let w = held t (goal.at.normal_member-normal_elements-requires t c).After-member_row-m in
    let gap = gap_filled w (c.fill.ensures.after (λ y h. h)) in (
      omega (arith, struct_below w c.in-Struct-2.is),
      (c.requires.0, all_here w c.in-Struct-2.is c.if-count-eq0.false gap),
    )

pub normal_member-returns-in-Struct-2 : goal.normal_member-returns-in-Struct-2
normal_member-returns-in-Struct-2 t c =
    let w = held t (goal.at.normal_member-returns-in-Struct-2 t c).After-member_row-m in
    let gap = gap_filled w (c.fill.ensures.after (λ y h. h)) in
    all_onward w c.in-Struct-2.is c.if-count-eq0.false c.struct_size-in-Struct-2.ensures gap
    c.normal_elements.ensures

-- ---- a structure

pub normal_struct-returns-then-is_string : goal.normal_struct-returns-then-is_string
normal_struct-returns-then-is_string t c =
    string_made c.requires.0 c.requires.1 c.type_row-d.ensures refl c.is_string.ensures
    c.if-is_string.true c.capacity_at.ensures c.normal_text.ensures

pub normal_struct-keep_flags-requires : goal.normal_struct-keep_flags-requires
normal_struct-keep_flags-requires t c = (
  rows_here c.requires.0 c.requires.1 c.type_row-d.ensures refl refl,
  rows_few c.requires.0 c.requires.1 c.type_row-d.ensures refl refl,
)

pub normal_struct-put_flags-requires : goal.normal_struct-put_flags-requires
normal_struct-put_flags-requires t c =
    let few = rows_few c.requires.0 c.requires.1 c.type_row-d.ensures refl refl in (
      rows_here c.requires.0 (here_after c.requires.1 c.sweep.auto.image) c.type_row-d.ensures refl
          refl,
      omega (arith, few, c.keep_flags.auto.kept),
    )

pub normal_struct-returns : goal.normal_struct-returns
normal_struct-returns t c =
    members_made c.requires.0 c.requires.1 c.type_row-d.ensures refl refl
    c.is_string.ensures c.if-is_string.false c.keep_flags.ensures c.sweep.ensures c.put_flags.ensures

-- ---- the sweep of a structure

pub sweep-normal_member-c-requires : goal.sweep-normal_member-c-requires
sweep-normal_member-c-requires t c =
    let v = c.loop-k.invariant in (
      omega arith,
      (
        v.sweepable,
        (sweep_plain v c.loop-k-test.true (sym c.is_plain.ensures ∙ c.if-is_plain.true), sweep_here v),
      ),
    )

pub sweep-loop-k-init : goal.sweep-loop-k-init
sweep-loop-k-init t c = sweep_start c.requires.0 c.requires.1 c.type_row-d.ensures

pub sweep-loop-k-preserved : goal.sweep-loop-k-preserved
sweep-loop-k-preserved t c =
    let v = c.loop-k.invariant in
    let l = c.loop-k-test.true in
    let test = c.is_plain.ensures in
    elim c.if-is_plain.branch [
      | sweep-then-is_plain w ↦ rw (w.c-is, w.image-is)
          (sweep_on v l (sym test ∙ w.if-is_plain.true) w.normal_member-c.ensures w.normal_member-c.auto.image)
      | sweep-else-is_plain w ↦ rw (w.c-is, w.image-is) (sweep_past v l (sym test ∙ w.if-is_plain.false))
    ]

pub sweep-overflow_add-base : goal.sweep-overflow_add-base
sweep-overflow_add-base t c =
    let v = c.loop-k.invariant in omega (arith, sweep_low v c.loop-k-test.false, v.here.inside)

pub sweep-slice_bounds-fill-count : goal.sweep-slice_bounds-fill-count
sweep-slice_bounds-fill-count t c =
    let size = size_of_type _ _ c.type_row-d.ensures refl in
    omega (arith, sweep_low c.loop-k.invariant c.loop-k-test.false, size)

pub sweep-slice_bounds-fill-start : goal.sweep-slice_bounds-fill-start
sweep-slice_bounds-fill-start t c =
    let size = size_of_type _ _ c.type_row-d.ensures refl in
    omega (arith, sweep_low c.loop-k.invariant c.loop-k-test.false, size)

pub sweep-returns : goal.sweep-returns
sweep-returns t c =
    let a = c.args in
    let v = c.loop-k.invariant in
    let b = c.loop-k.c in
    let bytes = c.type_row-d.result.size in
    let size = size_of_type _ _ c.type_row-d.ensures refl in
    let low = sweep_low v c.loop-k-test.false in
    sweep_done v c.loop-k-test.false size
    (zeros_filled c.loop-k.image (a.base + b) (a.base + bytes) (bytes - b) (omega (arith, low, size))
    (omega (arith, (sweep_here v).inside, size)) (c.fill.ensures.after (λ y h. h)))
