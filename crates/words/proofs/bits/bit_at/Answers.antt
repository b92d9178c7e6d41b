-- `words::bit_at` meets its contract: the bit of the byte is the bit of the list.
use mathlib.Core.Path.{sym}
use Rattle.words.specs.Bits.{bit_of}
use Rattle.words.proofs.BitLaws.{flat_at}
use Rattle.words.proofs.bits.bit_at.Goals as goal

pub returns : goal.returns
unfolding bit_of
returns c =
    let a = c.args in
    sym (flat_at a.s.now a.at a.bit c.requires.1)
