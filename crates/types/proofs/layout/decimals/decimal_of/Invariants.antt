-- `types::decimal_of` meets its contract. The invariant: the digits of what is left of the number belong before those
-- that are stored.
use Rattle.types.proofs.layout.DigitLaws.{Spelling}
use Rattle.types.proofs.layout.decimals.decimal_of.Given as goal

abbrev pub invariant-loop-y : goal.invariant-loop-y
invariant-loop-y l = Spelling l.x l.bytes l.from l.y

abbrev pub decreases-loop-y : goal.decreases-loop-y
decreases-loop-y l = l.y
