-- `values::put_truths` meets its contract.
use Rattle.std.proofs.Common.{arith, refl, sym}
use Rattle.values.proofs.reading.runs.RunLaws.{run_start, run_room, run_on, run_length, truths_done}
use Rattle.values.proofs.reading.runs.put_truths.Goals as goal

pub loop-i-init : goal.loop-i-init
loop-i-init c = run_start c.requires.1

pub put_entry-requires : goal.put_entry-requires
put_entry-requires c = run_room c.loop-i.invariant c.loop-i-test.true

pub overflow_add-p : goal.overflow_add-p
overflow_add-p c =
    omega (arith, run_room c.loop-i.invariant c.loop-i-test.true, run_length c.loop-i.invariant)

pub loop-i-preserved : goal.loop-i-preserved
loop-i-preserved c =
    run_on c.loop-i.invariant c.loop-i-test.true refl refl (sym c.truth.ensures) c.put_entry.ensures

pub returns : goal.returns
returns c =
    truths_done c.args.s.now (λ k. (c.type_inv.s k).fits) c.loop-i.invariant c.loop-i-test.false
