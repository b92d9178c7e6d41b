-- `types::template` meets its contract: an atomic has no template, a structure that is there has one.
use Rattle.std.proofs.Common.{refl}
use Rattle.std.proofs.lemmas.Result.{err_from_is_err_and}
use Rattle.types.specs.inside.tables.Defs.{Readable}
use Rattle.types.proofs.refusals.GivenLaws.{given_none, given_room, given_absent}
use Rattle.types.proofs.tables.ThereLaws.{kept_there}
use Rattle.types.proofs.templates.template.template.Goals as goal
use Rattle.types.proofs.templates.template.template.Goals.{In_ok-d}

pub returns-in_default : goal.returns-in_default
returns-in_default c = rw c.in_default.is (given_absent refl)

pub returns-in_err-d : goal.returns-in_err-d
returns-in_err-d c =
    let p = err_from_is_err_and c.from_residual.result c.from_residual.ensures.1 in
    rw (c.in-Struct.is, p.1, p.2, c.in_err-d.ensures.1) (given_absent c.in_err-d.ensures.0)

-- the structure's row can be read
readable : (c : In_ok-d) → Readable c.args.tables.now.members c.in_ok-d.d
readable c = rw c.in_ok-d.ensures.1 (kept_there c.requires _ c.in_ok-d.ensures.0).listable.rows.rows

pub template_bytes-long-requires : goal.template_bytes-long-requires
template_bytes-long-requires c = readable (goal.at.template_bytes-long-requires c).In_ok-d

pub returns-then-out-long : goal.returns-then-out-long
returns-then-out-long c =
    rw (c.in-Struct.is, c.in_ok-d.ensures.0)
    (given_none (rw (c.template_bytes-long.ensures, c.in_ok-d.ensures.1) at c.if-out-long.true))

pub write_template-requires : goal.write_template-requires
write_template-requires c = (
  readable (goal.at.write_template-requires c).In_ok-d,
  rw c.template_bytes-long.ensures at c.if-out-long.false,
)

pub returns : goal.returns
returns c =
    rw (
      c.in-Struct.is,
      c.in_ok-d.ensures.0,
      c.write_template.ensures,
      c.template_bytes-long.ensures,
      c.in_ok-d.ensures.1,
    )
    (given_room (rw (c.template_bytes-long.ensures, c.in_ok-d.ensures.1) at c.if-out-long.false))
