-- `types::measure` meets its contract: the walk that stores nothing starts at 0.
use Rattle.std.proofs.Common.{refl, ◌∙◌}
use borrow.Author.Rules.{rules}
use native.Mathlib.Nat.{zero-add}
use Rattle.types.proofs.templates.template.WalkLaws.{template_small, quiet_room}
use Rattle.types.proofs.templates.template.measure.Goals as goal

pub walk-requires : goal.walk-requires
walk-requires c =
    let small = template_small c.args.tables.now.types c.args.tables.now.members c.args.tables.now.names c.args.d
    c.requires in
    (refl, record { rows = c.requires; table = search rules; room = quiet_room small })

pub returns : goal.returns
returns c =
    record {
      at = c.walk.ensures.at ∙ zero-add _;
      small = template_small c.args.tables.now.types c.args.tables.now.members c.args.tables.now.names c.args.d
          c.requires;
      fold = c.walk.ensures.fold;
    }
