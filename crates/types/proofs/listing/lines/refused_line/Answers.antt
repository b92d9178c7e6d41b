-- `types::refused_line` meets its contract: the word, the number and the place.
use Rattle.types.proofs.listing.lines.ListingLaws.{left_room, left_on, last_room, left_done}
use Rattle.types.proofs.listing.lines.ListingLaws.{refused_left, refused_lined}
use Rattle.types.proofs.listing.lines.refused_line.Goals as goal

pub put_number-k2-requires : goal.put_number-k2-requires
put_number-k2-requires c =
    let all = refused_left c.args.number c.args.place c.requires in
    rw c.from.ensures (left_room (left_on all c.put_field-k1.ensures))

pub put_number-requires : goal.put_number-requires
put_number-requires c =
    let all = refused_left c.args.number c.args.place c.requires in
    let l1 = left_on all c.put_field-k1.ensures in
    rw c.from-2.ensures (last_room (left_on l1 (rw c.from.ensures at c.put_number-k2.ensures)))

pub returns : goal.returns
returns c =
    let all = refused_left c.args.number c.args.place c.requires in
    let l1 = left_on all c.put_field-k1.ensures in
    let l2 = left_on l1 (rw c.from.ensures at c.put_number-k2.ensures) in
    refused_lined c.args.number c.args.place all (left_done l2 (rw c.from-2.ensures at c.put_number.ensures))
