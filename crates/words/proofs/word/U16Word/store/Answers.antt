-- `u16::store` meets its contract.
use Rattle.std.proofs.Common.{rules}
use Rattle.words.specs.Words.{bytes_of}
use Rattle.words.proofs.word.U16Word.store.Goals as goal

pub returns : goal.returns
unfolding bytes_of
returns c = search rules
