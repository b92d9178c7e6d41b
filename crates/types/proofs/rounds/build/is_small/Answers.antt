-- `types::is_small` meets its contract.
use Rattle.types.proofs.rounds.build.ScratchLaws.{few_short}
use Rattle.types.proofs.rounds.build.is_small.Goals as goal

pub returns-then-book-lt4 : goal.returns-then-book-lt4
returns-then-book-lt4 c q = few_short 256 2048 c.if-book-lt4.true
