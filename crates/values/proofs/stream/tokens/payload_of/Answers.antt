-- `values::payload_of` meets its contract: an entry's payload lies in the stream.
use native.Mathlib.Omega.{arith}
use Rattle.values.proofs.stream.LeftLaws.{entries_inside, few_entries}
use Rattle.values.proofs.stream.tokens.payload_of.Goals as goal

pub overflow_mul-k : goal.overflow_mul-k
overflow_mul-k c = omega (arith, c.requires.1, few_entries _ c.requires.0)

pub overflow_add-k : goal.overflow_add-k
overflow_add-k c = omega (arith, c.requires.1, few_entries _ c.requires.0)

pub load-requires : goal.load-requires
load-requires c =
    omega (arith, c.requires.1, entries_inside _ c.requires.0)

pub returns : goal.returns
returns c = c.load.ensures
