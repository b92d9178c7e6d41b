-- `values::write` meets its contract: 15, 14, 17 in that order, or what the entries make of the image.
use Rattle.std.proofs.lemmas.Result.{err_from_is_err_and}
use mathlib.Core.Path.{◌≡◌, sym, ◌∙◌}
use lib.ListN.{length}
use Rattle.types.specs.refusals.Said.{done}
use Rattle.values.specs.inside.reading.Images.{said_of_image}
use Rattle.values.proofs.reading.ImageLaws.{fit_image}
use Rattle.values.proofs.reading.KeptWalkable.{kept_walkable}
use Rattle.values.proofs.writing.WrittenLaws.{entered_done, no_stream, unfit_write}
use Rattle.values.proofs.writing.write.write.Goals as goal
use Rattle.values.proofs.writing.write.write.Goals.{In_ok-image_fit}

-- the image fits
fits : (c : In_ok-image_fit)
    → let a = c.args in
    done tt ≡ said_of_image a.types.now a.ty a.count (length a.image.now)
fits c = rw c.in_ok-image_fit.was at c.image_fit.ensures

pub returns-then-not-stream_ok : goal.returns-then-not-stream_ok
returns-then-not-stream_ok c =
    let a = c.args in
    no_stream a.types.now a.members.now a.ty a.count a.s.now a.image.now
    (fits (goal.at.returns-then-not-stream_ok c).In_ok-image_fit)
    (sym c.stream_ok.ensures ∙ c.if-not-stream_ok.true)

pub write_entries-requires : goal.write_entries-requires
write_entries-requires c =
    let a = c.args in (
      kept_walkable c.requires.kept,
      (
        (fit_image a.types.now a.ty a.count a.image.now
            (fits (goal.at.write_entries-requires c).In_ok-image_fit)),
        sym c.stream_ok.ensures ∙ c.if-not-stream_ok.false,
      ),
    )

pub returns : goal.returns
returns c =
    let a = c.args in
    entered_done a.types.now a.members.now a.ty a.count a.s.now a.image.now
    (fits (goal.at.returns c).In_ok-image_fit)
    (sym c.stream_ok.ensures ∙ c.if-not-stream_ok.false)
    c.write_entries.ensures

pub returns-in_err-image_fit : goal.returns-in_err-image_fit
returns-in_err-image_fit c =
    let a = c.args in
    let p = err_from_is_err_and c.from_residual.result c.from_residual.ensures.1 in
    rw (p.1, p.2)
    (unfit_write a.types.now a.members.now a.ty a.count a.s.now a.image.now
    (rw c.in_err-image_fit.was at c.image_fit.ensures))
