-- `values::extend` meets its contract: below the first negative number it stays, else `fill` stands above it.
use borrow.Author.Tests.{lt-ltb, le-ltb}
use Rattle.values.specs.inside.reading.Numbers.{extended}
use Rattle.values.proofs.reading.numbers.extend.Goals as goal

pub returns-then-x-f : goal.returns-then-x-f
unfolding extended
returns-then-x-f c = simp (lt-ltb _ _ c.if-x-f.true)

pub returns : goal.returns
unfolding extended
returns c = simp (le-ltb _ _ c.if-x-f.false)
