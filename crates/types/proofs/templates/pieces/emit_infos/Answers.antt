-- `types::emit_infos` meets its contract. The invariant: the infos of the rows from the next on are left.
use Rattle.std.proofs.Common.{◌+◌, []}
use Rattle.types.specs.tables.TypeWord.{ids_in}
use Rattle.types.proofs.templates.SinkLaws.{left_room, left_on, left_none}
use Rattle.types.proofs.templates.TemplateLaws.{row_inside, row_type, infos_on, infos_off}
use Rattle.types.proofs.templates.pieces.emit_infos.Goals as goal

pub info-requires : goal.info-requires
info-requires c =
    let row = c.loop-row.auto.row in
    let rows = c.requires.0 in
    (row_inside row c.loop-row-test.true rows, row_type row c.loop-row-test.true rows)

pub emit-k-requires : goal.emit-k-requires
emit-k-requires c =
    let is = infos_on c.args.tables.now.members [] c.loop-row.row (c.args.d.first + c.args.d.count) c.loop-row-test.true
    (ids_in c.args.tables.now.types) in
    rw c.info.ensures (left_room _ _ is c.loop-row.invariant)

pub loop-row-preserved : goal.loop-row-preserved
loop-row-preserved c =
    let is = infos_on c.args.tables.now.members [] c.loop-row.row (c.args.d.first + c.args.d.count) c.loop-row-test.true
    (ids_in c.args.tables.now.types) in
    left_on _ is c.loop-row.invariant (rw c.info.ensures at c.emit-k.ensures)

pub returns : goal.returns
returns c = left_none (infos_off _ _ _ c.loop-row.row _ c.loop-row-test.false) c.loop-row.invariant
