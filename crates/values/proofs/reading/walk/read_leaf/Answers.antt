-- `values::walk::read_leaf` meets its contract: nothing of a hidden member, else its number and its value (document 01,
-- "Reading").
use Rattle.std.proofs.Common.{arith, refl}
use Rattle.values.proofs.reading.LeafLaws.{put_hidden, shown_room, NumberPut, bit_inside, bit_room, put_bit}
use Rattle.values.proofs.reading.LeafLaws.{put_struct, Atomics, atomics_inside, atomics_asks, put_atomics}
use Rattle.values.proofs.reading.walk.read_leaf.Goals as goal
use Rattle.values.proofs.reading.walk.read_leaf.Goals.{After-times_of, After-put_entry}

pub returns-then-m : goal.returns-then-m
returns-then-m c =
    put_hidden c.args.j c.args.image.now c.member_row-m.ensures c.args.out.now c.args.at c.if-m.true

pub put_entry-requires : goal.put_entry-requires
put_entry-requires c =
    shown_room c.args.j c.args.image.now c.member_row-m.ensures c.args.at c.if-m.false c.requires.out_room

-- the number is put
numbered : (c : After-put_entry)
    → let a = c.args in
    NumberPut a.types.now a.members.now a.image.now a.out.now a.i a.row a.j a.at c.member_row-m.result
    c.put_entry.new.out c.member_row-m.result.offset c.member_row-m.result.count
numbered c = record {
  row_of = c.requires.row_of.0;
  whole = c.requires.row_of.1;
  room = c.requires.out_room;
  is = c.member_row-m.ensures;
  shown = c.if-m.false;
  put = c.put_entry.ensures;
  from = refl;
  count = refl;
}

pub bit_at-requires : goal.bit_at-requires
bit_at-requires c = bit_inside (numbered (goal.at.bit_at-requires c).After-put_entry) c.in-Some.is

pub put_entry-requires-in-Some : goal.put_entry-requires-in-Some
put_entry-requires-in-Some c = bit_room (numbered (goal.at.put_entry-requires-in-Some c).After-put_entry) c.in-Some.is

pub overflow_add-result : goal.overflow_add-result
overflow_add-result c =
    omega (arith, bit_room (numbered (goal.at.overflow_add-result c).After-put_entry) c.in-Some.is)

pub returns-in-Some : goal.returns-in-Some
returns-in-Some c =
    put_bit (numbered (goal.at.returns-in-Some c).After-put_entry) c.in-Some.is c.bit_at.ensures c.truth_of.ensures
    c.put_entry-in-Some.ensures

-- and atomics are to follow
atomics : (c : After-times_of)
    → let a = c.args in
    NumberPut a.types.now a.members.now a.image.now a.out.now a.i a.row a.j a.at c.member_row-m.result
    c.put_entry.new.out c.member_row-m.result.offset c.member_row-m.result.count
    → Atomics a.types.now a.members.now a.image.now a.out.now a.i a.row a.j a.at c.member_row-m.result
    c.put_entry.new.out c.member_row-m.result.offset c.member_row-m.result.count c.in-Atomic.a c.size.result
    c.times_of.result
atomics c put = record {
  numbered = put;
  whole = c.in-None.is;
  atomic = c.in-Atomic.is;
  long = c.size.ensures;
  all = c.times_of.ensures;
}

pub overflow_mul-end : goal.overflow_mul-end
overflow_mul-end c =
    let at = goal.at.overflow_mul-end c in
    omega (arith, atomics_inside (atomics at.After-times_of (numbered at.After-put_entry)))

pub overflow_add-end : goal.overflow_add-end
overflow_add-end c =
    let at = goal.at.overflow_add-end c in
    omega (arith, atomics_inside (atomics at.After-times_of (numbered at.After-put_entry)))

pub slice_bounds-put_atomics-end : goal.slice_bounds-put_atomics-end
slice_bounds-put_atomics-end c =
    let at = goal.at.slice_bounds-put_atomics-end c in
    atomics_inside (atomics at.After-times_of (numbered at.After-put_entry))

pub put_atomics-requires : goal.put_atomics-requires
put_atomics-requires c =
    let at = goal.at.put_atomics-requires c in
    atomics_asks (atomics at.After-times_of (numbered at.After-put_entry))

pub returns-in-Atomic : goal.returns-in-Atomic
returns-in-Atomic c =
    let at = goal.at.returns-in-Atomic c in
    put_atomics (atomics at.After-times_of (numbered at.After-put_entry)) c.put_atomics.ensures

pub returns-in-Struct : goal.returns-in-Struct
returns-in-Struct c = put_struct (numbered (goal.at.returns-in-Struct c).After-put_entry) c.in-None.is c.in-Struct.is
