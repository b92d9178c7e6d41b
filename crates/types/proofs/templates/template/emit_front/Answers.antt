-- `types::emit_front` meets its contract: after each piece the others are left.
use Rattle.std.proofs.Common.{refl, arith, [], ◌∷◌}
use Rattle.types.specs.inside.templates.Pieces.{infos_in, shown_in}
use Rattle.types.proofs.templates.SinkLaws.{left_all, left_room, left_on}
use Rattle.types.proofs.templates.template.WalkLaws.{front_is}
use Rattle.types.proofs.templates.template.emit_front.Goals as goal

pub emit_infos-k1-requires : goal.emit_infos-k1-requires
emit_infos-k1-requires c =
    let is = front_is c.args.tables.now.types c.args.tables.now.members c.args.tables.now.names c.args.d in (
      c.requires.rows,
      left_room (infos_in c.args.tables.now.types c.args.tables.now.members c.args.d) _ is (left_all c.requires.room),
    )

pub emit_shown-k2-requires : goal.emit_shown-k2-requires
emit_shown-k2-requires c =
    let is = front_is c.args.tables.now.types c.args.tables.now.members c.args.tables.now.names c.args.d in
    let infos = left_on _ is (left_all c.requires.room) c.emit_infos-k1.ensures in (
      omega (arith, c.requires.rows.name, c.requires.table),
      left_room (shown_in c.args.tables.now.names c.args.d) _ refl infos,
    )

pub emit-k3-requires : goal.emit-k3-requires
emit-k3-requires c =
    let is = front_is c.args.tables.now.types c.args.tables.now.members c.args.tables.now.names c.args.d in
    let infos = left_on _ is (left_all c.requires.room) c.emit_infos-k1.ensures in
    let shown = left_on _ refl infos c.emit_shown-k2.ensures in
    left_room (0 ∷ []) _ refl shown

pub emit_names-requires : goal.emit_names-requires
emit_names-requires c =
    let is = front_is c.args.tables.now.types c.args.tables.now.members c.args.tables.now.names c.args.d in
    let infos = left_on _ is (left_all c.requires.room) c.emit_infos-k1.ensures in
    let shown = left_on _ refl infos c.emit_shown-k2.ensures in
    let zero = left_on _ refl shown c.emit-k3.ensures in
    record { rows = c.requires.rows; table = c.requires.table; room = zero.room }

pub returns : goal.returns
returns c =
    let is = front_is c.args.tables.now.types c.args.tables.now.members c.args.tables.now.names c.args.d in
    let infos = left_on _ is (left_all c.requires.room) c.emit_infos-k1.ensures in
    let shown = left_on _ refl infos c.emit_shown-k2.ensures in
    let zero = left_on _ refl shown c.emit-k3.ensures in
    zero.then _ _ c.emit_names.ensures
