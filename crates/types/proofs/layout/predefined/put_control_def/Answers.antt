-- `types::put_control_def` meets its contract: a control type's name and parts, then its row.
use Rattle.std.proofs.Common.{◌∙◌}
use Rattle.types.specs.declared.tables.member.StructKind.TheVariants.{Predefined}
use Rattle.types.proofs.adding.AddStoreLaws.{new_readable, new_took}
use Rattle.types.proofs.layout.PredefinedLaws.{control_counted}
use Rattle.types.proofs.layout.predefined.put_control_def.Goals as goal

pub enter-requires : goal.enter-requires
enter-requires c = (
  c.requires.ready.few,
  rw (c.put_control.ensures.rows, c.bare_head-head.ensures)
      (new_readable c.args.tables.now.types c.args.tables.now.members c.args.tables.now.names c.args.u
      (control_counted c.requires _)
      c.args.id 12 Predefined c.requires.ready),
)

pub returns : goal.returns
returns c =
    new_took c.args.tables.now.types c.args.tables.now.members c.args.tables.now.names c.args.u
    (control_counted c.requires _) c.args.id 12
    Predefined c.requires.ready (c.enter.ensures.members ∙ c.put_control.ensures.rows)
    (c.enter.ensures.names ∙ (c.put_control.ensures.names ∙ rw c.put_bytes.ensures))
    (c.enter.ensures.types ∙ rw (c.bare_head-head.ensures, c.enter.ensures.members, c.enter.ensures.names))
    c.used_more.ensures
