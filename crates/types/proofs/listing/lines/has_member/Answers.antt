-- `types::has_member` meets its contract.
use Rattle.std.proofs.Common.{sym, ◌∙◌}
use Rattle.types.specs.listing.Lines.{has_member}
use Rattle.types.proofs.listing.lines.has_member.Goals as goal

pub returns-then-is_there : goal.returns-then-is_there
unfolding has_member
returns-then-is_there c = rw (c.type_row.ensures, sym c.is_there.ensures ∙ c.if-is_there.true)

pub returns-else-is_there : goal.returns-else-is_there
unfolding has_member
returns-else-is_there c = rw (c.if-is_there.false, sym c.is_there.ensures ∙ c.if-is_there.false)
