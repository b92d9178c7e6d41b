-- `types::write_template` meets its contract: the walk that stores starts at 0.
use Rattle.std.proofs.Common.{refl}
use borrow.Author.Rules.{rules}
use Rattle.types.proofs.templates.template.WalkLaws.{template_small, writing_room}
use Rattle.types.proofs.templates.template.write_template.Goals as goal

pub walk-requires : goal.walk-requires
walk-requires c =
    let small = template_small c.args.tables.now.types c.args.tables.now.members c.args.tables.now.names c.args.d
    c.requires.0 in
    let room = writing_room small c.requires.1 in
    (refl, record { rows = c.requires.0; table = search rules; room = room })
