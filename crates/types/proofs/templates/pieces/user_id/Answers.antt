-- `types::user_id` meets its contract.
use borrow.Author.Tests.{lt-leb}
use Rattle.types.proofs.templates.TemplateLaws.{id_below, id_within}
use Rattle.types.proofs.templates.pieces.user_id.Goals as goal

pub returns-then-id-ge256 : goal.returns-then-id-ge256
returns-then-id-ge256 c = id_within c.args.id c.if-id-ge256.true

pub returns-else-id-ge256 : goal.returns-else-id-ge256
returns-else-id-ge256 c = rw (lt-leb 0x100 c.args.id c.if-id-ge256.false) (id_below c.args.id c.if-id-ge256.false)
