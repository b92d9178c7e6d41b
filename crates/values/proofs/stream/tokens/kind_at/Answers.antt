-- `values::kind_at` meets its contract: past the last entry there is none.
use native.Mathlib.Omega.{arith}
use mathlib.Core.Path.{sym}
use Rattle.values.proofs.stream.LeftLaws.{kind_none}
use Rattle.values.proofs.stream.tokens.kind_at.Goals as goal

pub kind_of-requires : goal.kind_of-requires
kind_of-requires c = (c.requires.form, omega (arith, c.requires.count, c.if-k-n.true))

pub returns-else-k-n : goal.returns-else-k-n
returns-else-k-n c = sym (kind_none _ _ (omega (arith, c.requires.count, c.if-k-n.false)))
