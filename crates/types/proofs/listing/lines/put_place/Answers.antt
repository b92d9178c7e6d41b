-- `types::put_place` meets its contract: after each field the others are left.
use Rattle.types.specs.listing.Lines.{member_place}
use Rattle.types.specs.tables.Defs.{name_in}
use Rattle.types.proofs.listing.lines.ListingLaws.{left_all, left_room, left_on, last_room, left_done}
use Rattle.types.proofs.listing.lines.put_place.Goals as goal

pub put_number-k1-requires : goal.put_number-k1-requires
put_number-k1-requires c =
    let all = left_all (member_place c.args.m (name_in c.args.names.now c.args.name)) c.requires.1 in
    rw c.from.ensures (left_room all)

pub put_number-k2-requires : goal.put_number-k2-requires
put_number-k2-requires c =
    let all = left_all (member_place c.args.m (name_in c.args.names.now c.args.name)) c.requires.1 in
    let l1 = left_on all (rw c.from.ensures at c.put_number-k1.ensures) in
    rw c.from-2.ensures (left_room l1)

pub put_bit-k3-requires : goal.put_bit-k3-requires
put_bit-k3-requires c =
    let all = left_all (member_place c.args.m (name_in c.args.names.now c.args.name)) c.requires.1 in
    let l1 = left_on all (rw c.from.ensures at c.put_number-k1.ensures) in
    left_room (left_on l1 (rw c.from-2.ensures at c.put_number-k2.ensures))

pub put_name-requires : goal.put_name-requires
put_name-requires c =
    let all = left_all (member_place c.args.m (name_in c.args.names.now c.args.name)) c.requires.1 in
    let l1 = left_on all (rw c.from.ensures at c.put_number-k1.ensures) in
    let l2 = left_on l1 (rw c.from-2.ensures at c.put_number-k2.ensures) in
    (c.requires.0, last_room (left_on l2 c.put_bit-k3.ensures))

pub returns : goal.returns
returns c =
    let all = left_all (member_place c.args.m (name_in c.args.names.now c.args.name)) c.requires.1 in
    let l1 = left_on all (rw c.from.ensures at c.put_number-k1.ensures) in
    let l2 = left_on l1 (rw c.from-2.ensures at c.put_number-k2.ensures) in
    left_done (left_on l2 c.put_bit-k3.ensures) c.put_name.ensures
