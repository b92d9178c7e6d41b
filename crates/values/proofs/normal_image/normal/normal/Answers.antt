-- `values::normal` meets its contract (document 01, "Normal image", "Refusal numbers"): 15, 14 in that order, or the
-- normal image.
use Rattle.std.proofs.lemmas.Result.{err_from_is_err_and}
use mathlib.Core.Path.{◌≡◌}
use lib.ListN.{length}
use Rattle.types.specs.refusals.Said.{done}
use Rattle.values.specs.inside.reading.Images.{said_of_image}
use Rattle.values.proofs.normal_image.normal.KeptSweepable.{kept_sweepable}
use Rattle.values.proofs.normal_image.normal.NormalisedLaws.{unfit_normal, whole_normal}
use Rattle.values.proofs.reading.ImageLaws.{fit_image}
use Rattle.values.proofs.normal_image.normal.normal.Goals as goal
use Rattle.values.proofs.normal_image.normal.normal.Goals.{In_ok-image_fit}

-- the image fits
fits : (c : In_ok-image_fit)
    → let a = c.args in
    done tt ≡ said_of_image a.types.now a.ty a.count (length a.image.now)
fits c = rw c.in_ok-image_fit.was at c.image_fit.ensures

pub normal_value-requires : goal.normal_value-requires
normal_value-requires c =
    let a = c.args in (
      kept_sweepable c.requires,
      (fit_image a.types.now a.ty a.count a.image.now
          (fits (goal.at.normal_value-requires c).In_ok-image_fit)),
    )

pub returns-in_err-image_fit : goal.returns-in_err-image_fit
returns-in_err-image_fit c =
    let a = c.args in
    let p = err_from_is_err_and c.from_residual.result c.from_residual.ensures.1 in
    rw (p.1, p.2)
    (unfit_normal a.types.now a.members.now a.ty a.count a.image.now
    (rw c.in_err-image_fit.was at c.image_fit.ensures))

pub returns : goal.returns
returns c =
    let a = c.args in
    whole_normal a.types.now a.members.now a.ty a.count a.image.now
    (fits (goal.at.returns c).In_ok-image_fit)
    c.normal_value.ensures
