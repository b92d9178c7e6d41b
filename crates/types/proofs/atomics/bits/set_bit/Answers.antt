-- `types::set_bit` meets its contract: one of the eight bits, or none.
use borrow.Author.Tests.{lt-ltb, le-ltb}
use Rattle.types.specs.atomics.Bits.{bit_set}
use Rattle.types.proofs.atomics.bits.set_bit.Goals as goal

pub returns-then-bit-lt8 : goal.returns-then-bit-lt8
unfolding bit_set
returns-then-bit-lt8 c = rw (c.set_bit.ensures, lt-ltb _ 8 c.if-bit-lt8.true)

pub returns-else-bit-lt8 : goal.returns-else-bit-lt8
unfolding bit_set
returns-else-bit-lt8 c = rw (le-ltb c.args.bit 8 c.if-bit-lt8.false)
