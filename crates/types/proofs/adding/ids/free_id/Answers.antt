-- `types::free_id` meets its contract: every id below is held, and in the inner loop none of the rows passed holds
-- this one.
use Rattle.std.proofs.Common.{◌<◌, sym, ◌∙◌, arith, below_more}
use Rattle.types.proofs.adding.IdLaws.{held_more}
use Rattle.types.proofs.adding.ids.free_id.Goals as goal

pub ids-preserved : goal.ids-preserved
ids-preserved c =
    let i = c.loop-i in
    let o = c.ids in
    let below : i.i < c.args.n = omega (arith, i.invariant.1.0, c.if-i-n.false) in (
      omega arith,
      (
        omega arith,
        held_more c.args.types.now c.args.n i.id i.i (rw i.invariant.0 o.invariant.1.1) below c.if-types-i.true,
      ),
    )

pub loop-i-preserved : goal.loop-i-preserved
loop-i-preserved c =
    let i = c.loop-i in (
      i.invariant.0,
      (
        omega (arith, i.invariant.1.0, c.if-i-n.false),
        below_more _ _ i.invariant.1.1 (λ e. c.if-types-i.false (e ∙ sym i.invariant.0)),
      ),
    )

pub returns-after-ids : goal.returns-after-ids
returns-after-ids c =
    record { low = omega arith; high = omega arith; taken = c.ids.invariant.1.1; free = λ l h. omega arith }

pub returns-then-i-n : goal.returns-then-i-n
returns-then-i-n c =
    let i = c.loop-i in
    record {
      low = omega arith;
      high = omega arith;
      taken = rw i.invariant.0 c.ids.invariant.1.1;
      free = λ q h. i.invariant.1.1 h.0 (omega (arith, h.1, c.if-i-n.true)) (h.2 ∙ i.invariant.0);
    }
