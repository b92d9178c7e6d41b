-- `types::same_name` meets its contract.
use Rattle.std.proofs.Common.{sym, ◌∙◌}
use Rattle.types.proofs.book.NameLaws.{same_long, from_not, from_first}
use Rattle.types.proofs.book.names.same_name.Goals as goal

pub returns-then-a-b : goal.returns-then-a-b
returns-then-a-b c = sym (same_long c.args.a.now c.args.b.now c.if-a-b.true)

pub returns-then-lower : goal.returns-then-lower
returns-then-lower c =
    sym (from_not c.loop-i.invariant c.loop-i-test.true
    (λ q. c.if-lower.true (c.lower.ensures ∙ q ∙ sym c.lower-in-loop-i.ensures)))

pub returns : goal.returns
returns c = sym (from_first c.loop-i.invariant c.loop-i-test.false)
