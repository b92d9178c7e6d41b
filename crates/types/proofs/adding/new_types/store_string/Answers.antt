-- `types::store_string` meets its contract: the name and the parts of a string, then its row.
use Rattle.std.proofs.Common.{◌∙◌}
use Rattle.types.specs.declared.tables.member.StructKind.TheVariants.{Str}
use Rattle.types.proofs.adding.AddLaidLaws.{string_counted}
use Rattle.types.proofs.adding.AddStoreLaws.{new_readable, new_took}
use Rattle.types.proofs.adding.new_types.store_string.Goals as goal

pub enter-requires : goal.enter-requires
enter-requires c =
    let a = c.args in (
      c.requires.0.few,
      rw (c.put_string.ensures.rows, c.bare_head-head.ensures, c.string_size-size.ensures)
          (new_readable a.tables.now.types a.tables.now.members a.tables.now.names a.u
          (string_counted a.name.now a.capacity _) a.id _ Str
          c.requires.0),
    )

pub returns : goal.returns
returns c =
    let a = c.args in
    new_took a.tables.now.types a.tables.now.members a.tables.now.names a.u (string_counted a.name.now a.capacity _)
    a.id _ Str c.requires.0 (c.enter.ensures.members ∙ c.put_string.ensures.rows)
    (c.enter.ensures.names ∙ (c.put_string.ensures.names ∙ rw c.put_bytes.ensures))
    (c.enter.ensures.types ∙ rw (
      c.bare_head-head.ensures,
      c.string_size-size.ensures,
      c.enter.ensures.members,
      c.enter.ensures.names,
    ))
    c.used_more.ensures
