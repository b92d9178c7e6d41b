-- `cases::main` is safe and ends: tables of zeros are kept.
use Rattle.types.proofs.Face.{none_kept}
use Rattle.cases.proofs.main.Goals as goal

pub replay_all-requires : goal.replay_all-requires
replay_all-requires c = none_kept c.new-tables.ensures.types c.new-tables.ensures.members c.new-tables.ensures.names
