-- `types::clear` meets its contract.
use Rattle.types.proofs.rounds.WaitLaws.{cleared}
use Rattle.types.proofs.rounds.build.clear.Goals as goal

pub returns : goal.returns
returns c = cleared
