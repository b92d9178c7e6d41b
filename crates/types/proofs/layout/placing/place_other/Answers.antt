-- `types::place_other` meets its contract: the end decides.
use Rattle.std.proofs.Common.{◌≡◌, Some, None, arith}
use Rattle.std.proofs.lemmas.Result.{err_from_is_err_and}
use Rattle.types.specs.layout.Placing.{start_of}
use Rattle.types.specs.declared.layout.placing.LayoutFault.TheVariants.{TooFar}
use Rattle.types.proofs.layout.LayoutLaws.{other_over, other_at_lem}
use Rattle.types.proofs.layout.placing.place_other.Goals as goal

pub returns-in_err-offset : goal.returns-in_err-offset
unfolding start_of
returns-in_err-offset c =
    let p = err_from_is_err_and c.from_residual.result c.from_residual.ensures.1 in
    let none : c.member_end.result ≡ None = grind arith in
    let far : c.in_err-offset.field-0.0 ≡ TooFar = grind arith in
    rw (p.1, p.2, far)
    (other_over c.args.c c.args.d c.member_end.result c.align_up-start.ensures c.member_end.ensures none)

pub returns : goal.returns
unfolding start_of
returns c =
    let some : c.member_end.result ≡ Some c.in_ok-offset.offset = grind arith in
    other_at_lem c.args.c c.args.d c.member_end.result c.align_up-start.ensures c.member_end.ensures some
    c.close.ensures
