-- `types::plain_shape` meets its contract: the product decides.
use Rattle.std.proofs.Common.{◌≡◌, ◌∙◌, Some, None, arith}
use Rattle.std.proofs.lemmas.Result.{err_from_is_err_and}
use Rattle.types.specs.declared.refusals.refusal.Refusal.TheVariants.{TagTooLarge}
use Rattle.types.proofs.shape.ShapeLaws.{plain_over, plain_is}
use Rattle.types.proofs.shape.tags.plain_shape.Goals as goal

pub returns-in_err-n : goal.returns-in_err-n
returns-in_err-n c =
    let p = err_from_is_err_and c.from_residual.result c.from_residual.ensures.1 in
    let none : c.multiplied.result ≡ None = grind arith in
    let over : c.in_err-n.field-0.0 ≡ TagTooLarge = grind arith in
    rw (p.1, p.2, over) (plain_over _ c.args.ty c.args.lengths.now c.multiplied.ensures none)

pub returns : goal.returns
returns c =
    let some : c.multiplied.result ≡ Some c.in_ok-n.n = grind arith in
    c.tag_within.ensures
    ∙ rw c.three_of.ensures (plain_is _ c.args.ty c.args.lengths.now c.multiplied.ensures some)
