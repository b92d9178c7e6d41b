-- `values::put_bit` meets its contract: the byte with the bit is stored in its place.
use Rattle.words.proofs.StampLaws.{flat_bit}
use Rattle.values.proofs.writing.bools.put_bit.Goals as goal

pub returns : goal.returns
returns c =
    flat_bit c.args.image.now c.args.at c.args.bit c.args.value c.set_bit.ensures
    c.requires.0 c.requires.1
