-- `types::lost_bits` meets its contract. The invariant: the bits so far and those of the rows left are the bits of all.
use Rattle.std.proofs.Common.{refl, arith, ◌∙◌}
use Rattle.types.proofs.templates.TemplateLaws.{row_inside}
use Rattle.types.proofs.templates.waste.WasteLaws.{count_first, count_on, count_done, row_fitting}
use Rattle.types.proofs.templates.waste.lost_bits.Goals as goal

pub loop-row-init : goal.loop-row-init
loop-row-init c = count_first c.args.types.now c.args.members.now c.args.d.first _

pub seen_bits-bits-requires : goal.seen_bits-bits-requires
seen_bits-bits-requires c =
    rw c.member_row.ensures (row_fitting c.loop-row.auto.row c.loop-row-test.true c.requires)

pub overflow_add-bits : goal.overflow_add-bits
overflow_add-bits c =
    let inside = row_inside c.loop-row.auto.row c.loop-row-test.true c.requires.rows in
    omega (arith, c.loop-row.invariant.small, c.seen_bits-bits.ensures.small)

pub loop-row-preserved : goal.loop-row-preserved
loop-row-preserved c =
    count_on c.loop-row.invariant c.loop-row-test.true (rw c.member_row.ensures at c.seen_bits-bits.ensures)

pub returns : goal.returns
returns c names =
    c.saturating_sub.ensures
    ∙ rw c.from.ensures (count_done c.loop-row.invariant c.args.d refl refl c.loop-row-test.false names)
