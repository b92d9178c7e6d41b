-- `types::lower` meets its contract.
use Rattle.std.proofs.Common.{◌∙◌}
use Rattle.types.proofs.book.NameLaws.{lower_is}
use Rattle.types.proofs.book.names.lower.Goals as goal

pub returns : goal.returns
returns c = c.to_ascii_lowercase.ensures.value ∙ lower_is c.args.x
