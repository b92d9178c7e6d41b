-- `types::most_lengths` meets its contract.
use Rattle.std.proofs.Common.{sym, ◌∙◌}
use Rattle.types.proofs.shape.ShapeLaws.{most_bool, most_other}
use Rattle.types.proofs.shape.tags.most_lengths.Goals as goal

pub returns-then-is_bool : goal.returns-then-is_bool
returns-then-is_bool c = most_bool c.args.ty (sym c.is_bool.ensures ∙ c.if-is_bool.true)

pub returns-else-is_bool : goal.returns-else-is_bool
returns-else-is_bool c = most_other c.args.ty (sym c.is_bool.ensures ∙ c.if-is_bool.false)
