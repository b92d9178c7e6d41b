-- `answers::main` is safe and ends: tables of zeros are kept.
use Rattle.types.proofs.Face.{none_kept}
use Rattle.answers.proofs.main.Goals as goal

pub serve-requires : goal.serve-requires
serve-requires c = none_kept c.new-tables.ensures.types c.new-tables.ensures.members c.new-tables.ensures.names
