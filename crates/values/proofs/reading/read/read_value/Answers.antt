-- `values::read_value` meets its contract.
use native.Mathlib.Omega.{arith}
use mathlib.Core.Path.{ap}
use Rattle.types.specs.declared.tables.member.Ty.{Ty}
use Rattle.values.specs.inside.reading.Walk.{value_out}
use Rattle.values.proofs.reading.LeafLaws.{textless_atomics}
use Rattle.values.proofs.reading.ReadingLaws.{images, value_atomic}
use Rattle.values.proofs.stream.LayingLaws.{room_as, wrote_as}
use Rattle.values.proofs.stream.PutLaws.{put_wrote}
use Rattle.values.proofs.reading.read.read_value.Goals as goal

pub put_atomics-requires : goal.put_atomics-requires
put_atomics-requires c =
    let a = c.args in
    let is = c.in-Atomic.is in
    let v = rw is at c.requires.walkable.1 in
    let r = room_as (value_atomic a.types.now a.members.now a.n a.image.now a.ty is)
    c.requires.stream_room in
    (v.long, omega (arith, r.entries, r.texts))

pub returns-in-Atomic : goal.returns-in-Atomic
returns-in-Atomic c =
    let a = c.args in
    wrote_as (value_atomic a.types.now a.members.now a.n a.image.now a.ty c.in-Atomic.is)
    (put_wrote a.base 0 (textless_atomics _ a.n a.image.now) c.put_atomics.ensures)

pub read_structs-requires : goal.read_structs-requires
read_structs-requires c =
    let a = c.args in
    let is = c.in-Struct.is in record {
      walkable = (c.requires.walkable.0, images a.types.now a.ty a.n a.image.now is c.requires.walkable.1);
      stream_room = room_as (ap (λ (t : Ty). value_out a.types.now a.members.now t a.n a.image.now) is)
          c.requires.stream_room;
    }

pub returns-in-Struct : goal.returns-in-Struct
returns-in-Struct c =
    let a = c.args in
    wrote_as (ap (λ (t : Ty). value_out a.types.now a.members.now t a.n a.image.now)
    c.in-Struct.is) c.read_structs.ensures
