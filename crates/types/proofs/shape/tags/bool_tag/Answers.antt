-- `types::bool_tag` meets its contract.
use Rattle.std.proofs.Common.{◌≡◌, not, length, sym, ◌∙◌, ltb, arith}
use Rattle.std.proofs.lemmas.Grind.{common_steps}
use Rattle.types.proofs.shape.ShapeLaws.{tag_bool, tag_other}
use Rattle.types.proofs.shape.tags.bool_tag.Goals as goal

pub returns-then-is_bool : goal.returns-then-is_bool
returns-then-is_bool c =
    let some : not c.is_empty.result ≡ ltb 0 (length c.args.lengths.now) = grind (arith, common_steps) in
    some ∙ tag_bool c.args.ty c.args.lengths.now (sym c.is_bool.ensures ∙ c.if-is_bool.true)

pub returns-else-is_bool : goal.returns-else-is_bool
returns-else-is_bool c =
    c.if-is_bool.false ∙ tag_other c.args.ty c.args.lengths.now (sym c.is_bool.ensures ∙ c.if-is_bool.false)
