-- `types::emit_names` meets its contract. The invariant: the names of the rows from the next on are left.
use Rattle.std.proofs.Common.{◌+◌, refl, [], ◌∷◌}
use Rattle.types.proofs.templates.SinkLaws.{left_room, left_on, left_none}
use Rattle.types.proofs.templates.TemplateLaws.{row_name, names_on, names_off, name_came}
use Rattle.types.proofs.templates.pieces.emit_names.Goals as goal

pub emit_name-k-requires : goal.emit_name-k-requires
emit_name-k-requires c =
    let is = names_on c.args.tables.now.members c.args.tables.now.names c.loop-row.row (c.args.d.first + c.args.d.count)
    c.loop-row-test.true in
    rw c.name_row.ensures (
      row_name c.loop-row.auto.row c.loop-row-test.true c.requires.rows c.args.tables.now.names c.requires.table,
      left_room _ _ is c.loop-row.invariant,
    )

pub emit-k-requires : goal.emit-k-requires
emit-k-requires c =
    let named = name_came c.args.tables.now.members c.args.tables.now.names c.loop-row.row
    (c.args.d.first + c.args.d.count)
    c.loop-row-test.true c.name_row.ensures c.loop-row.invariant c.emit_name-k.ensures in
    left_room (0 ∷ []) _ refl named

pub loop-row-preserved : goal.loop-row-preserved
loop-row-preserved c =
    let named = name_came c.args.tables.now.members c.args.tables.now.names c.loop-row.row
    (c.args.d.first + c.args.d.count)
    c.loop-row-test.true c.name_row.ensures c.loop-row.invariant c.emit_name-k.ensures in
    left_on _ refl named c.emit-k.ensures

pub returns : goal.returns
returns c = left_none (names_off _ _ c.loop-row.row _ c.loop-row-test.false) c.loop-row.invariant
