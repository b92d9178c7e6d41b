-- `types::bit_of` meets its contract.
use borrow.Author.Tests.{eq-eqb, ne_eqb}
use Rattle.types.specs.tables.Lent.{bit_of_word}
use Rattle.types.proofs.tables.lent.bit_of.Goals as goal

pub returns-then-w-eq0 : goal.returns-then-w-eq0
unfolding bit_of_word
returns-then-w-eq0 c = simp (eq-eqb _ _ c.if-w-eq0.true)

pub returns-else-w-eq0 : goal.returns-else-w-eq0
unfolding bit_of_word
returns-else-w-eq0 c = simp (ne_eqb _ _ c.if-w-eq0.false)
