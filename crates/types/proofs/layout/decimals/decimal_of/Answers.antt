-- `types::decimal_of` meets its contract. The invariant: the digits of what is left of the number belong before those
-- that are stored.
use native.Mathlib.Omega.{arith}
use Rattle.types.proofs.layout.DigitLaws.{spell_first, spell_on, spell_done}
use Rattle.types.proofs.layout.decimals.decimal_of.Goals as goal

pub loop-y-init : goal.loop-y-init
loop-y-init c = spell_first c.args.x (omega arith)

pub loop-y-preserved : goal.loop-y-preserved
loop-y-preserved c =
    spell_on c.loop-y.invariant c.last_digit.ensures c.loop-y-test.true

pub returns : goal.returns
returns c =
    spell_done c.loop-y.invariant c.last_digit-2.ensures (omega (arith, c.loop-y-test.false))
