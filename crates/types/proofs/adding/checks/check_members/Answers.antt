-- `types::check_members` meets its contract. The invariant is `Checking`.
use Rattle.std.proofs.Common.{ℕ, refl}
use Rattle.std.proofs.lemmas.Result.{err_from_is_err_and}
use lib.ListN.{length-replicate}
use Rattle.types.proofs.adding.checks.CheckLaws.{checking_start, checking_on, checking_off, checking_done}
use Rattle.types.proofs.adding.checks.check_members.Goals as goal

pub loop-j-init : goal.loop-j-init
loop-j-init c = checking_start c.args.book.now c.args.aoi c.args.at c.args.n (length-replicate {A = ℕ} 16384 0)

pub loop-j-preserved : goal.loop-j-preserved
loop-j-preserved c = checking_on c.loop-j.invariant c.loop-j-test.true c.in_ok-check_one.ensures refl

pub returns-in_err-check_one : goal.returns-in_err-check_one
returns-in_err-check_one c =
    let p = err_from_is_err_and c.from_residual.result c.from_residual.ensures.1 in
    rw (p.1, p.2) (checking_off c.loop-j.invariant c.loop-j-test.true c.in_err-check_one.ensures refl)

pub returns : goal.returns
returns c = checking_done c.loop-j.invariant c.loop-j-test.false
