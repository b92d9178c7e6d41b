-- `u16::load` meets its contract.
use Rattle.std.proofs.Common.{rules}
use Rattle.words.specs.Words.{word_at}
use Rattle.words.proofs.word.U16Word.load.Goals as goal

pub returns : goal.returns
unfolding word_at
returns c = search rules
