-- `types::add_members` meets its contract: the refusal of a bad member, or the layout.
use Rattle.std.proofs.Common.{◌≡◌, ◌∙◌, rules}
use Rattle.std.proofs.lemmas.Result.{err_from_is_err_and}
use Rattle.types.proofs.adding.AddStoreLaws.{took_no, took_so}
use Rattle.types.proofs.adding.AddTypeLaws.{members_laid, members_bad}
use Rattle.types.proofs.adding.FaultLaws.{mapped_ok, mapped_err}
use Rattle.types.specs.adding.Checks.{member_number}
use Rattle.types.specs.refusals.Said.{why_of}
use Rattle.types.proofs.adding.add.add_members.Goals as goal

pub returns-in_err-map_err : goal.returns-in_err-map_err
returns-in_err-map_err c =
    let p = err_from_is_err_and c.from_residual.result c.from_residual.ensures.1 in
    let m = mapped_err _ c.map_err.ensures.cases c.in_err-map_err.was in
    let x = m.2 in
    let w : why_of c.in_err-map_err.field-0.0 ≡ (member_number m.0, c.args.new.number) = search rules in
    rw (p.1, p.2) (took_no (members_bad _ _ _ _ _ _ _ _ _ c.check_members.ensures m.1 ∙ rw w))

pub returns : goal.returns
returns c =
    took_so
    (members_laid _ _ _ _ _ _ _ _ _ c.check_members.ensures (mapped_ok _ c.map_err.ensures.cases c.in_ok-map_err.was))
    c.add_laid.ensures
