-- `values::bit_of` meets its contract: the remainder by 2 is the bit's digit.
use Rattle.std.proofs.Common.{◌∙◌}
use Rattle.words.proofs.BitLaws.{bit_digit}
use Rattle.values.proofs.reading.atomics.bit_of.Goals as goal

pub returns : goal.returns
returns c = c.from.ensures ∙ bit_digit c.args.x c.args.k
