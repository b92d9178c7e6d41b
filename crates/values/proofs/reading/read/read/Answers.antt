-- `values::read` meets its contract: 15, 14, 16 in that order, or the stream.
use Rattle.std.proofs.lemmas.Result.{err_from_is_err_and}
use native.Mathlib.Omega.{arith}
use mathlib.Core.Path.{◌≡◌}
use lib.ListN.{length}
use Rattle.types.specs.refusals.Said.{done}
use Rattle.values.specs.inside.reading.Images.{said_of_image}
use Rattle.values.proofs.reading.ImageLaws.{fit_image}
use Rattle.values.proofs.reading.KeptWalkable.{kept_walkable}
use Rattle.values.proofs.reading.ReadingLaws.{answered, no_room, no_start, unfit_read}
use Rattle.values.proofs.reading.read.read.Goals as goal
use Rattle.values.proofs.reading.read.read.Goals.{In_ok-image_fit}

-- the image fits
fits : (c : In_ok-image_fit)
    → let a = c.args in
    done tt ≡ said_of_image a.types.now a.ty a.count (length a.image.now)
fits c = rw c.in_ok-image_fit.was at c.image_fit.ensures

pub returns-then-most-lt4 : goal.returns-then-most-lt4
returns-then-most-lt4 c =
    let a = c.args in
    answered a.types.now a.members.now a.ty a.count a.image.now a.out.now
    (fits (goal.at.returns-then-most-lt4 c).In_ok-image_fit)
    (no_room a.types.now a.members.now a.ty a.count a.image.now a.out.now
    (no_start a.types.now a.members.now a.ty a.count a.image.now a.out.now
    (omega (arith, c.min-most.ensures, c.if-most-lt4.true))))

pub read_within-requires : goal.read_within-requires
read_within-requires c =
    let a = c.args in record {
      walkable = (
        kept_walkable c.requires.kept,
        (fit_image a.types.now a.ty a.count a.image.now
            (fits (goal.at.read_within-requires c).In_ok-image_fit)),
      );
      most_room = omega (arith, c.min-most.ensures, c.if-most-lt4.false);
    }

pub returns : goal.returns
returns c =
    let a = c.args in
    answered a.types.now a.members.now a.ty a.count a.image.now a.out.now
    (fits (goal.at.returns c).In_ok-image_fit)
    c.read_within.ensures

pub returns-in_err-image_fit : goal.returns-in_err-image_fit
returns-in_err-image_fit c =
    let a = c.args in
    let p = err_from_is_err_and c.from_residual.result c.from_residual.ensures.1 in
    rw (p.1, p.2)
    (unfit_read a.types.now a.members.now a.ty a.count a.image.now a.out.now
    (rw c.in_err-image_fit.was at c.image_fit.ensures))
