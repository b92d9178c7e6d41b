-- `words::set_bit` meets its contract: the mask is the bit's power of two.
use Rattle.words.proofs.BitLaws.{mask_set, mask_clear}
use Rattle.words.proofs.bits.set_bit.Goals as goal

pub returns-then-value : goal.returns-then-value
returns-then-value c =
    let a = c.args in
    mask_set a.byte.now a.bit a.value c.requires c.if-value.true

pub returns-else-value : goal.returns-else-value
returns-else-value c =
    let a = c.args in
    mask_clear a.byte.now a.bit a.value c.requires c.if-value.false
