-- `values::put_wide` meets its contract, by the width alone.
use Rattle.std.proofs.Common.{arith, ◌*◌, ◌∙◌}
use Rattle.values.proofs.reading.runs.RunLaws.{run_start, run_room, run_length, numbers_on, numbers_done, number_fits}
use Rattle.values.proofs.reading.runs.put_wide.Goals as goal

pub loop-i-init : goal.loop-i-init
loop-i-init g c = run_start c.requires.run.1

pub extend-requires : goal.extend-requires
extend-requires g c =
    number_fits c.form_of-f.ensures c.requires.run.0 (λ k. (c.type_inv.s k).fits) (c.BYTES.result * c.loop-i.i)
    (c.requires.widened _ _ c.into-x.ensures ∙ c.load.ensures)

pub put_entry-requires : goal.put_entry-requires
put_entry-requires g c = run_room c.loop-i.invariant c.loop-i-test.true

pub overflow_add-p : goal.overflow_add-p
overflow_add-p g c =
    omega (arith, run_room c.loop-i.invariant c.loop-i-test.true, run_length c.loop-i.invariant)

pub loop-i-preserved : goal.loop-i-preserved
loop-i-preserved g c =
    numbers_on c.form_of-f.result g.W.Word.BYTES c.args.s.now c.loop-i.invariant c.loop-i-test.true
    (rw c.BYTES.ensures at (c.requires.widened _ _ c.into-x.ensures ∙ c.load.ensures)) c.extend.ensures
    c.put_entry.ensures

pub returns : goal.returns
returns g c =
    numbers_done c.form_of-f.ensures c.requires.run.0 (λ k. (c.type_inv.s k).fits) c.loop-i.invariant
    c.loop-i-test.false
