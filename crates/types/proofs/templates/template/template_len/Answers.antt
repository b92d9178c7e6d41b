-- `types::template_len` meets its contract: of a structure that is there, or 15.
use Rattle.std.proofs.lemmas.Result.{err_from_is_err_and}
use Rattle.types.specs.templates.Template.{template_length}
use Rattle.types.proofs.tables.ThereLaws.{kept_there}
use Rattle.types.proofs.templates.template.template_len.Goals as goal

pub returns-in_err-d : goal.returns-in_err-d
unfolding template_length
returns-in_err-d c =
    let p = err_from_is_err_and c.from_residual.result c.from_residual.ensures.1 in
    rw (p.1, p.2, c.in_err-d.ensures.1, c.in_err-d.ensures.0)

pub template_bytes-requires : goal.template_bytes-requires
template_bytes-requires c =
    rw c.in_ok-d.ensures.1 (kept_there c.requires c.args.n c.in_ok-d.ensures.0).listable.rows.rows

pub returns : goal.returns
unfolding template_length
returns c = rw (c.template_bytes.ensures, c.in_ok-d.ensures.1, c.in_ok-d.ensures.0)
