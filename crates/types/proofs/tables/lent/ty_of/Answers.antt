-- `types::ty_of` meets its contract.
use borrow.Author.Tests.{lt-ltb, le-ltb}
use Rattle.types.specs.tables.Lent.{ty_of_word}
use Rattle.types.proofs.atomics.AtomicLaws.{at_is}
use Rattle.types.proofs.tables.lent.ty_of.Goals as goal

pub returns-then-w-lt32768 : goal.returns-then-w-lt32768
unfolding ty_of_word
returns-then-w-lt32768 c = simp (lt-ltb _ _ c.if-w-lt32768.true, at_is _ c.at.ensures)

pub returns-else-w-lt32768 : goal.returns-else-w-lt32768
unfolding ty_of_word
returns-else-w-lt32768 c = simp (le-ltb _ _ c.if-w-lt32768.false)
