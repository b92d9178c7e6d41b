-- `types::add_string` meets its contract: stored where there is room, or 13.
use Rattle.std.proofs.Common.{sym, ◌∙◌}
use Rattle.types.proofs.adding.AddLaidLaws.{string_counted}
use Rattle.types.proofs.adding.AddStoreLaws.{roomy, stored_full, stored_yes, took_so}
use Rattle.types.proofs.adding.new_types.add_string.Goals as goal

pub returns-then-not-has_room : goal.returns-then-not-has_room
returns-then-not-has_room c =
    stored_full c.args.tables.now.types c.args.tables.now.members c.args.tables.now.names c.args.new.used
    (string_counted c.args.name.now c.args.capacity _) _ _ _ c.has_room.ensures _ c.if-not-has_room.true

pub store_string-requires : goal.store_string-requires
store_string-requires c =
    let room = roomy _ _ _ (sym c.if-not-has_room.false ∙ c.has_room.ensures) in (
      record {
        usable = c.requires.addable_string.usable;
        members = c.requires.addable_string.rows;
        names = c.requires.addable_string.bytes;
        few = room.types;
        rows = room.members;
        bytes = room.bytes;
      },
      c.requires.capacity_bound,
    )

pub returns : goal.returns
returns c =
    took_so
    (stored_yes c.args.tables.now.types c.args.tables.now.members c.args.tables.now.names c.args.new.used
    (string_counted c.args.name.now c.args.capacity _) _ _ _ c.has_room.ensures c.if-not-has_room.false _)
    c.store_string.ensures
