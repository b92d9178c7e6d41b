-- `types::finish_handle` meets its contract.
use Rattle.types.proofs.templates.HandleLaws.{zero_one, other_same}
use Rattle.types.proofs.templates.handle.finish_handle.Goals as goal

pub returns-then-h-eq0 : goal.returns-then-h-eq0
returns-then-h-eq0 c = zero_one c.args.h c.if-h-eq0.true

pub returns-else-h-eq0 : goal.returns-else-h-eq0
returns-else-h-eq0 c = other_same c.args.h c.if-h-eq0.false
