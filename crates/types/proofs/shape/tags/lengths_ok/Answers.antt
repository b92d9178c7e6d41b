-- `types::lengths_ok` meets its contract.
use Rattle.std.proofs.Common.{◌∙◌}
use borrow.Author.Tests.{lt-leb}
use Rattle.types.proofs.shape.ShapeLaws.{too_many, few}
use Rattle.types.proofs.shape.tags.lengths_ok.Goals as goal

pub returns-then-lengths-most_lengths : goal.returns-then-lengths-most_lengths
returns-then-lengths-most_lengths c =
    c.none_zero.ensures
    ∙ few c.args.ty c.args.lengths.now (rw c.most_lengths.ensures at c.if-lengths-most_lengths.true)

pub returns-else-lengths-most_lengths : goal.returns-else-lengths-most_lengths
returns-else-lengths-most_lengths c =
    lt-leb _ _ c.if-lengths-most_lengths.false
    ∙ too_many c.args.ty c.args.lengths.now (rw c.most_lengths.ensures at c.if-lengths-most_lengths.false)
