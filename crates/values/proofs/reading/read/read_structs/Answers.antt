-- `values::read_structs` meets its contract.
use Rattle.values.proofs.reading.ReadingLaws.{image_one, image_some, value_one, value_some}
use Rattle.values.proofs.stream.LayingLaws.{room_as, wrote_as}
use Rattle.values.proofs.reading.read.read_structs.Goals as goal

pub read_struct-requires : goal.read_struct-requires
read_struct-requires c =
    let a = c.args in record {
      walkable = (
        c.requires.walkable.0,
        image_one a.types.now a.i a.n a.image.now c.requires.walkable.1
            c.if-n-eq0.true,
      );
      stream_room = room_as (value_one a.types.now a.members.now a.n a.image.now a.i
          c.if-n-eq0.true) c.requires.stream_room;
    }

pub returns-then-n-eq0 : goal.returns-then-n-eq0
returns-then-n-eq0 c =
    let a = c.args in
    wrote_as (value_one a.types.now a.members.now a.n a.image.now a.i c.if-n-eq0.true)
    c.read_struct.ensures

pub read_elements-requires : goal.read_elements-requires
read_elements-requires c =
    let a = c.args in record {
      walkable = (
        c.requires.walkable.0,
        image_some a.types.now a.i a.n a.image.now c.requires.walkable.1
            c.if-n-eq0.false,
      );
      stream_room = room_as (value_some a.types.now a.members.now a.n a.image.now a.i
          c.if-n-eq0.false) c.requires.stream_room;
    }

pub returns-else-n-eq0 : goal.returns-else-n-eq0
returns-else-n-eq0 c =
    let a = c.args in
    wrote_as (value_some a.types.now a.members.now a.n a.image.now a.i c.if-n-eq0.false)
    c.read_elements.ensures
