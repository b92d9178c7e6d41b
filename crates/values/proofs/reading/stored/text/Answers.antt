-- `values::text` meets its contract: 15, 14 in that order, or the text's part of the image.
use Rattle.std.proofs.Common.{ℕ, arith, refl, sym, ap, ◌∙◌}
use Rattle.std.proofs.lemmas.Result.{err_from_is_err_and}
use Rattle.values.proofs.reading.KeptWalkable.{kept_walkable}
use Rattle.values.proofs.reading.StoredLaws.{row_fits, row_misfits, row_low, row_inside, row_held}
use Rattle.values.proofs.reading.StoredLaws.{stored_text, stored_none}
use Rattle.values.specs.inside.reading.Texts.{TextHeld}
use Rattle.values.specs.reading.Texts.{text_length}
use Rattle.values.proofs.reading.stored.text.Goals as goal
use Rattle.values.proofs.reading.stored.text.Goals.{After-text_length-end}

pub returns-in_err-d : goal.returns-in_err-d
returns-in_err-d c =
    let a = c.args in
    let p = err_from_is_err_and c.from_residual.result c.from_residual.ensures.1 in
    let e = sym (c.in_err-d.ensures.1 a.image.now) in
    rw (p.1, p.2, c.in_err-d.ensures.0)
    (record {
      answer = stored_none a.types.now a.members.now a.ty a.image.now e (omega arith);
      place = tt;
    })

pub returns-then-image-d : goal.returns-then-image-d
returns-then-image-d c =
    let a = c.args in
    let e = row_misfits c.in_ok-d.ensures a.image.now c.if-image-d.true in
    record { answer = stored_none a.types.now a.members.now a.ty a.image.now e (omega arith); place = tt }

pub capacity_at-capacity-requires : goal.capacity_at-capacity-requires
capacity_at-capacity-requires c =
    row_low c.in_ok-d.ensures c.args.image.now (kept_walkable c.requires.kept) c.if-image-d.false

pub text_length-end-requires : goal.text_length-end-requires
text_length-end-requires c =
    omega (arith, row_inside c.in_ok-d.ensures c.args.image.now (kept_walkable c.requires.kept) c.if-image-d.false)

-- the text lies in the image
held : (c : After-text_length-end)
    → let a = c.args in
    TextHeld a.types.now a.members.now a.ty a.image.now c.text_length-end.result
held c =
    let a = c.args in
    row_held c.in_ok-d.ensures a.image.now (kept_walkable c.requires.kept) c.if-image-d.false
    (c.text_length-end.ensures ∙ ap (λ (k : ℕ). text_length k a.image.now) c.capacity_at-capacity.ensures)

pub slice_bounds-result-end : goal.slice_bounds-result-end
slice_bounds-result-end c = (held (goal.at.slice_bounds-result-end c).After-text_length-end).inside

pub returns : goal.returns
returns c =
    let a = c.args in
    let fits = row_fits c.in_ok-d.ensures a.image.now c.if-image-d.false in
    record {
      answer = stored_text a.types.now a.members.now a.ty a.image.now fits
          (held (goal.at.returns c).After-text_length-end);
      place = record { block = refl; start = omega arith };
    }
