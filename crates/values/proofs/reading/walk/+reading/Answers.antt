-- The walk of a reading meets its contracts: structures, their members, nested ones, arrays of structures. A structure
-- holds only earlier ones, so that the number falls (document 01, "Reading").
use native.Mathlib.Omega.{arith}
use mathlib.Core.Path.{refl}
use Rattle.values.proofs.reading.MemberLaws.{held_earlier}
use Rattle.values.proofs.reading.PartLaws.{one_fits, some_fits}
use Rattle.values.proofs.reading.walk.ReadLaws.{members_are, string_fits, string_is}
use Rattle.values.proofs.reading.walk.ReadLaws.{members_room, rows_start, rows_end, nested_asks}
use Rattle.values.proofs.reading.walk.ReadLaws.{nested_on, leaf_asks, leaf_on}
use Rattle.values.proofs.reading.walk.ReadLaws.{held_row, nesting, nested_room}
use Rattle.values.proofs.reading.walk.ReadLaws.{one_asks, one_wrote, some_asks, some_wrote}
use Rattle.values.proofs.reading.walk.ReadLaws.{elements_room, elements_start, elements_end, element_asks, element_on}
use Rattle.values.proofs.stream.LayingLaws.{room_as, wrote_as}
use Rattle.values.proofs.reading.walk.+reading.Goals as goal
use Rattle.values.proofs.reading.walk.+reading.Goals.{read_members-then-is_nested, read_members-else-is_nested}

-- ---- a structure: a string is one text, any other its members

pub read_struct-put_text-requires : goal.read_struct-put_text-requires
read_struct-put_text-requires t c =
    let w = c.requires.walkable in (
      string_fits w.0 w.1 c.type_row-d.ensures c.is_string.ensures c.if-is_string.true refl
          c.capacity_at-capacity.ensures,
      room_as (string_is w.0 w.1 c.type_row-d.ensures c.is_string.ensures c.if-is_string.true refl
          c.capacity_at-capacity.ensures) c.requires.stream_room,
    )

pub read_struct-returns-then-is_string : goal.read_struct-returns-then-is_string
read_struct-returns-then-is_string t c =
    let w = c.requires.walkable in
    wrote_as (string_is w.0 w.1 c.type_row-d.ensures c.is_string.ensures c.if-is_string.true refl
    c.capacity_at-capacity.ensures) c.put_text.ensures

pub read_struct-read_members-requires : goal.read_struct-read_members-requires
read_struct-read_members-requires t c =
    let w = c.requires.walkable in (
      omega (arith, c.decreases),
      (
        w,
        room_as (members_are w.0 w.1 c.type_row-d.ensures c.is_string.ensures c.if-is_string.false)
            c.requires.stream_room,
      ),
    )

pub read_struct-returns-else-is_string : goal.read_struct-returns-else-is_string
read_struct-returns-else-is_string t c =
    let w = c.requires.walkable in
    wrote_as (members_are w.0 w.1 c.type_row-d.ensures c.is_string.ensures c.if-is_string.false)
    c.read_members.ensures

-- ---- its members, between the brackets, in order

pub read_members-put_entry-requires : goal.read_members-put_entry-requires
read_members-put_entry-requires t c = members_room _ _ _ _ _ c.requires.stream_room

pub read_members-loop-j-init : goal.read_members-loop-j-init
read_members-loop-j-init t c =
    rows_start c.type_row-d.ensures refl refl c.args.out.now c.requires.stream_room
    c.put_entry.ensures c.requires.walkable.0 c.requires.walkable.1

pub read_members-read_nested-next-requires : goal.read_members-read_nested-next-requires
read_members-read_nested-next-requires t c =
    let asks = nested_asks c.loop-j.invariant c.loop-j-test.true c.is_nested.ensures c.if-is_nested.true in
    (omega (arith, c.decreases), asks)

pub read_members-read_leaf-p-requires-clause-out_room : goal.read_members-read_leaf-p-requires-clause-out_room
read_members-read_leaf-p-requires-clause-out_room t c =
    (leaf_asks c.loop-j.invariant c.loop-j-test.true c.is_nested.ensures c.if-is_nested.false).1

pub read_members-loop-j-preserved : goal.read_members-loop-j-preserved
read_members-loop-j-preserved t c =
    elim c.if-is_nested.branch [
      | read_members-then-is_nested w ↦ rw (w.out-is, w.p-is, w.t-is)
          (nested_on c.loop-j.invariant c.loop-j-test.true c.is_nested.ensures w.if-is_nested.true
          w.read_nested-next.ensures)
      | read_members-else-is_nested w ↦ rw (w.out-is, w.p-is, w.t-is)
          (leaf_on c.loop-j.invariant c.loop-j-test.true c.is_nested.ensures w.if-is_nested.false
          w.read_leaf-p.ensures)
    ]

pub read_members-returns : goal.read_members-returns
read_members-returns t c =
    rows_end c.type_row-d.ensures refl refl c.args.out.now c.requires.stream_room
    c.put_entry.ensures c.loop-j.invariant c.loop-j-test.false c.put_entry-2.ensures

-- ---- the structure, or the array of structures, in a row, from its own part of the image

pub read_nested-put_entry-requires : goal.read_nested-put_entry-requires
read_nested-put_entry-requires t c =
    nested_room _ _ _ _ _ _ c.requires.walkable.1.0.nested c.requires.stream_room

pub read_nested-slice_bounds-read_struct-end : goal.read_nested-slice_bounds-read_struct-end
read_nested-slice_bounds-read_struct-end t c =
    let h = held_row c.requires.walkable.1 c.nested_in-m.ensures c.struct_size-size.ensures in
    one_fits h c.if-m-eq0.true

pub read_nested-read_struct-requires : goal.read_nested-read_struct-requires
read_nested-read_struct-requires t c =
    let h = held_row c.requires.walkable.1 c.nested_in-m.ensures c.struct_size-size.ensures in
    let w = nesting c.args.out.now c.requires.walkable.0 h c.requires.stream_room c.put_entry.ensures in
    (omega (arith, c.decreases, held_earlier h.nested h.held), one_asks w c.if-m-eq0.true)

pub read_nested-returns-then-m-eq0 : goal.read_nested-returns-then-m-eq0
read_nested-returns-then-m-eq0 t c =
    let h = held_row c.requires.walkable.1 c.nested_in-m.ensures c.struct_size-size.ensures in
    let w = nesting c.args.out.now c.requires.walkable.0 h c.requires.stream_room c.put_entry.ensures in
    one_wrote w c.if-m-eq0.true c.read_struct.ensures

pub read_nested-overflow_mul-end : goal.read_nested-overflow_mul-end
read_nested-overflow_mul-end t c =
    let h = held_row c.requires.walkable.1 c.nested_in-m.ensures c.struct_size-size.ensures in
    omega (arith, some_fits h c.if-m-eq0.false)

pub read_nested-overflow_add-end-2 : goal.read_nested-overflow_add-end-2
read_nested-overflow_add-end-2 t c =
    let h = held_row c.requires.walkable.1 c.nested_in-m.ensures c.struct_size-size.ensures in
    omega (arith, some_fits h c.if-m-eq0.false)

pub read_nested-slice_bounds-read_elements-end : goal.read_nested-slice_bounds-read_elements-end
read_nested-slice_bounds-read_elements-end t c =
    let h = held_row c.requires.walkable.1 c.nested_in-m.ensures c.struct_size-size.ensures in
    some_fits h c.if-m-eq0.false

pub read_nested-read_elements-requires : goal.read_nested-read_elements-requires
read_nested-read_elements-requires t c =
    let h = held_row c.requires.walkable.1 c.nested_in-m.ensures c.struct_size-size.ensures in
    let w = nesting c.args.out.now c.requires.walkable.0 h c.requires.stream_room c.put_entry.ensures in
    (omega (arith, c.decreases, held_earlier h.nested h.held), some_asks w c.if-m-eq0.false)

pub read_nested-returns : goal.read_nested-returns
read_nested-returns t c =
    let h = held_row c.requires.walkable.1 c.nested_in-m.ensures c.struct_size-size.ensures in
    let w = nesting c.args.out.now c.requires.walkable.0 h c.requires.stream_room c.put_entry.ensures in
    some_wrote w c.if-m-eq0.false c.read_elements.ensures

-- ---- an array of structures, element by element

pub read_elements-put_entry-requires : goal.read_elements-put_entry-requires
read_elements-put_entry-requires t c = elements_room _ _ _ _ _ _ c.requires.stream_room

pub read_elements-loop-k-init : goal.read_elements-loop-k-init
read_elements-loop-k-init t c =
    elements_start c.args.out.now c.requires.stream_room c.put_entry.ensures c.requires.walkable.0
    c.requires.walkable.1 c.struct_size-size.ensures

pub read_elements-read_struct-next-requires : goal.read_elements-read_struct-next-requires
read_elements-read_struct-next-requires t c =
    let asks = element_asks c.loop-k.invariant c.loop-k-test.true in
    (omega (arith, c.decreases), asks)

pub read_elements-loop-k-preserved : goal.read_elements-loop-k-preserved
read_elements-loop-k-preserved t c =
    element_on c.loop-k.invariant c.loop-k-test.true c.read_struct-next.ensures

pub read_elements-returns : goal.read_elements-returns
read_elements-returns t c =
    elements_end c.args.out.now c.requires.stream_room c.put_entry.ensures c.loop-k.invariant c.loop-k-test.false
    c.put_entry-2.ensures
