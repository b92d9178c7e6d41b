-- `types::bool_shape` meets its contract: the rounded length decides.
use Rattle.std.proofs.Common.{◌≡◌, ◌∙◌, ◌^◌, ◌<◌, Some, None, arith}
use Rattle.std.proofs.lemmas.Result.{err_from_is_err_and}
use Rattle.std.specs.Int.{next_multiple_of}
use Rattle.types.specs.declared.refusals.refusal.Refusal.TheVariants.{TagTooLarge}
use Rattle.types.proofs.shape.ShapeLaws.{bool_over, bool_within, rounded}
use Rattle.types.proofs.shape.tags.bool_shape.Goals as goal

pub returns-in_err-up : goal.returns-in_err-up
returns-in_err-up c =
    let p = err_from_is_err_and c.from_residual.result c.from_residual.ensures.1 in
    let none : c.checked_next_multiple_of.result ≡ None = grind arith in
    let over : c.in_err-up.field-0.0 ≡ TagTooLarge = grind arith in
    let large : next_multiple_of c.args.n 32 < 2 ^ 32 → ⊥ =
    λ h. (rw none at c.checked_next_multiple_of.ensures) (omega arith, h) in
    rw (p.1, p.2, over) (bool_over _ c.args.n (rounded c.args.n) (omega (arith, large)))

pub returns : goal.returns
returns c =
    let some : c.checked_next_multiple_of.result ≡ Some c.in_ok-up.up = grind arith in
    let up = rw some at c.checked_next_multiple_of.ensures in
    c.tag_within.ensures
    ∙ rw c.from.ensures (bool_within _ c.args.n (up.1 ∙ rounded c.args.n) (omega arith))
