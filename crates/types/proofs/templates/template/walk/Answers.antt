-- `types::walk` meets its contract: the front, and for a user's type the padding and the member ids.
use native.Mathlib.Omega.{arith}
use mathlib.Core.Path.{refl}
use Rattle.types.specs.templates.Template.{padding, member_ids}
use Rattle.types.proofs.templates.SinkLaws.{left_room, left_on}
use Rattle.types.proofs.templates.template.WalkLaws.{front_room, front_user, front_bare}
use Rattle.types.proofs.templates.template.walk.Goals as goal

pub emit_front-k1-requires : goal.emit_front-k1-requires
emit_front-k1-requires c =
    let a = c.args in
    let asked = c.requires.1 in
    let room = front_room a.tables.now.types a.tables.now.members a.tables.now.names a.d asked.room in
    record { rows = asked.rows; table = asked.table; room = room }

pub emit_padding-k2-requires : goal.emit_padding-k2-requires
emit_padding-k2-requires c =
    let a = c.args in
    let front = c.emit_front-k1 in
    let left = front_user a.tables.now.types a.tables.now.members a.tables.now.names a.d c.user_id.ensures
    c.if-user_id.true c.requires.0 c.requires.1.room front.ensures in
    left_room (padding front.result.at) _ refl left

pub emit_ids-requires : goal.emit_ids-requires
emit_ids-requires c =
    let a = c.args in
    let front = c.emit_front-k1 in
    let left = front_user a.tables.now.types a.tables.now.members a.tables.now.names a.d c.user_id.ensures
    c.if-user_id.true c.requires.0 c.requires.1.room front.ensures in
    let ids = left_on (member_ids 0 a.d.count) refl left c.emit_padding-k2.ensures in
    (omega (arith, c.requires.1.rows.rows), ids.room)

pub returns-then-user_id : goal.returns-then-user_id
returns-then-user_id c =
    let a = c.args in
    let front = c.emit_front-k1 in
    let left = front_user a.tables.now.types a.tables.now.members a.tables.now.names a.d c.user_id.ensures
    c.if-user_id.true c.requires.0 c.requires.1.room front.ensures in
    let ids = left_on (member_ids 0 a.d.count) refl left c.emit_padding-k2.ensures in
    ids.then _ _ c.emit_ids.ensures

pub returns-else-user_id : goal.returns-else-user_id
returns-else-user_id c =
    let a = c.args in
    front_bare a.tables.now.types a.tables.now.members a.tables.now.names a.d c.user_id.ensures c.if-user_id.false
    c.emit_front-k1.ensures
