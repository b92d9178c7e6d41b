-- `types::waste` meets its contract: of a structure that is there, or 15.
use Rattle.std.proofs.lemmas.Result.{err_from_is_err_and}
use Rattle.types.specs.templates.Waste.{waste_at}
use Rattle.types.proofs.tables.ThereLaws.{kept_there}
use Rattle.types.proofs.templates.waste.waste.Goals as goal

pub returns-in_err-d : goal.returns-in_err-d
unfolding waste_at
returns-in_err-d c names =
    let p = err_from_is_err_and c.from_residual.result c.from_residual.ensures.1 in
    rw (p.1, p.2, c.in_err-d.ensures.1, c.in_err-d.ensures.0)

pub lost_bits-requires : goal.lost_bits-requires
lost_bits-requires c =
    rw c.in_ok-d.ensures.1 (kept_there c.requires.kept c.args.n c.in_ok-d.ensures.0).listable.rows

pub returns : goal.returns
unfolding waste_at
returns c names = rw (c.lost_bits.ensures names, c.in_ok-d.ensures.1, c.in_ok-d.ensures.0)
