-- `types::put_numbers` meets its contract: after each number the others are left.
use Rattle.types.specs.listing.Lines.{type_numbers}
use Rattle.types.proofs.listing.lines.ListingLaws.{left_all, left_room, left_on, last_room, left_done}
use Rattle.types.proofs.listing.lines.put_numbers.Goals as goal

pub put_number-k1-requires : goal.put_number-k1-requires
put_number-k1-requires c =
    let all = left_all (type_numbers c.args.d.id c.args.d.size c.args.d.count c.args.bytes c.args.bits) c.requires in
    rw c.from.ensures (left_room all)

pub put_number-k2-requires : goal.put_number-k2-requires
put_number-k2-requires c =
    let all = left_all (type_numbers c.args.d.id c.args.d.size c.args.d.count c.args.bytes c.args.bits) c.requires in
    let l1 = left_on all (rw c.from.ensures at c.put_number-k1.ensures) in
    rw c.from-2.ensures (left_room l1)

pub put_number-k3-requires : goal.put_number-k3-requires
put_number-k3-requires c =
    let all = left_all (type_numbers c.args.d.id c.args.d.size c.args.d.count c.args.bytes c.args.bits) c.requires in
    let l1 = left_on all (rw c.from.ensures at c.put_number-k1.ensures) in
    let l2 = left_on l1 (rw c.from-2.ensures at c.put_number-k2.ensures) in
    rw c.from-3.ensures (left_room l2)

pub put_number-k4-requires : goal.put_number-k4-requires
put_number-k4-requires c =
    let all = left_all (type_numbers c.args.d.id c.args.d.size c.args.d.count c.args.bytes c.args.bits) c.requires in
    let l1 = left_on all (rw c.from.ensures at c.put_number-k1.ensures) in
    let l2 = left_on l1 (rw c.from-2.ensures at c.put_number-k2.ensures) in
    let l3 = left_on l2 (rw c.from-3.ensures at c.put_number-k3.ensures) in
    rw c.from-4.ensures (left_room l3)

pub put_number-requires : goal.put_number-requires
put_number-requires c =
    let all = left_all (type_numbers c.args.d.id c.args.d.size c.args.d.count c.args.bytes c.args.bits) c.requires in
    let l1 = left_on all (rw c.from.ensures at c.put_number-k1.ensures) in
    let l2 = left_on l1 (rw c.from-2.ensures at c.put_number-k2.ensures) in
    let l3 = left_on l2 (rw c.from-3.ensures at c.put_number-k3.ensures) in
    last_room (left_on l3 (rw c.from-4.ensures at c.put_number-k4.ensures))

pub returns : goal.returns
returns c =
    let all = left_all (type_numbers c.args.d.id c.args.d.size c.args.d.count c.args.bytes c.args.bits) c.requires in
    let l1 = left_on all (rw c.from.ensures at c.put_number-k1.ensures) in
    let l2 = left_on l1 (rw c.from-2.ensures at c.put_number-k2.ensures) in
    let l3 = left_on l2 (rw c.from-3.ensures at c.put_number-k3.ensures) in
    let l4 = left_on l3 (rw c.from-4.ensures at c.put_number-k4.ensures) in
    left_done l4 c.put_number.ensures
