-- `types::sum_counts` meets its contract: all counts are those so far and those that are left.
use Rattle.std.proofs.Common.{ap, ◌∙◌, arith}
use Rattle.types.specs.declared.book.contents.TypeEntry.{TypeEntry}
use Rattle.types.proofs.book.BookLaws.{sum_start, sum_done, sum_on}
use Rattle.types.proofs.book.contents.sum_counts.Goals as goal

pub loop-i-init : goal.loop-i-init
loop-i-init c = sum_start c.args.book.now c.args.n

pub overflow_add-sum : goal.overflow_add-sum
overflow_add-sum c =
    omega (arith, c.loop-i.invariant.small, c.loop-i.invariant.done, c.count_of-sum.ensures.1, c.requires.1)

pub loop-i-preserved : goal.loop-i-preserved
loop-i-preserved c =
    sum_on c.loop-i.invariant c.loop-i-test.true
    (c.count_of-sum.ensures.0 ∙ ap (λ (e : TypeEntry). e.count) c.type_entry.ensures) c.count_of-sum.ensures.1

pub returns : goal.returns
returns c = sum_done c.loop-i.invariant c.loop-i-test.false
