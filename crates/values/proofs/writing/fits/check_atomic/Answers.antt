-- `values::check_atomic` meets its contract: no entry is left, or the limits judge the entry that is there.
use native.Mathlib.Omega.{arith}
use mathlib.Core.Path.{refl, sym, ap, ◌∙◌}
use Rattle.values.specs.inside.writing.Effects.{atomic_takes}
use Rattle.values.specs.writing.Effects.{or_null, refuse}
use Rattle.values.proofs.stream.LeftLaws.{EntryThere, there}
use Rattle.values.proofs.writing.FitLaws.{atomic_here}
use Rattle.values.proofs.writing.StepLaws.{judged_refused, one_judged, one_missing, one_refused}
use Rattle.values.proofs.writing.fits.FitRunLaws.{few}
use Rattle.values.proofs.writing.fits.check_atomic.Goals as goal
use Rattle.values.proofs.writing.fits.check_atomic.Goals.{Else-n-k}

here : (c : Else-n-k) → EntryThere c.args.s.now c.args.k
here c =
    let told = c.requires.0 in
    there _ _ told.form (omega (arith, c.if-n-k.false, told.count))

pub overflow_cast-result : goal.overflow_cast-result
overflow_cast-result c = omega (arith, few c.requires.0, c.requires.1)

pub returns-then-n-k : goal.returns-then-n-k
returns-then-n-k c w p =
    let told = c.requires.0 in
    one_missing told.form (or_null (atomic_takes c.args.a)) w p
    (omega (arith, c.if-n-k.true, told.count, c.requires.1))

pub returns-in-None : goal.returns-in-None
returns-in-None c w p =
    let e = here (goal.at.returns-in-None c).Else-n-k in
    one_judged c.requires.0.form (or_null (atomic_takes c.args.a)) w p e
    (atomic_here (λ i. (c.type_inv.s i).fits) _ e c.limits_of.ensures c.kind_of.ensures c.payload_of.ensures
    c.in-None.ensures)

pub at-requires : goal.at-requires
at-requires c = omega (arith, few c.requires.0, c.requires.1)

pub returns-in-Some : goal.returns-in-Some
returns-in-Some c w p =
    let e = here (goal.at.returns-in-Some c).Else-n-k in
    let judged = atomic_here (λ i. (c.type_inv.s i).fits) c.args.a e c.limits_of.ensures c.kind_of.ensures
    c.payload_of.ensures c.in-Some.ensures in
    one_refused c.requires.0.form (or_null (atomic_takes c.args.a)) w p e
    (judged_refused judged refl ∙ ap refuse (sym c.at.ensures.0)) c.at.ensures.1
