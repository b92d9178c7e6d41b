-- `values::put_numbers` meets its contract: the numbers, between the brackets.
use Prim.Native.Nat.{◌+◌, ◌*◌, ◌≤◌}
use native.Mathlib.Omega.{arith}
use mathlib.Core.Path.{◌∙◌}
use lib.ListN.{length}
use Rattle.values.proofs.reading.atomics.AtomicRunLaws.{elements_long, numbers_long, numbers_put}
use Rattle.values.proofs.stream.PutLaws.{put_length}
use Rattle.values.proofs.reading.atomics.put_numbers.Goals as goal
use Rattle.values.proofs.reading.atomics.put_numbers.Goals.{After-put_run-p, Start}

-- the numbers and the brackets have room
fits : (c : Start) → c.args.at + 12 * (c.args.n + 2) ≤ length c.args.out.now
fits c = omega (arith, c.requires.1, numbers_long c.args.a c.args.n c.args.s.now)

-- the close bracket has room where the numbers end
last : (c : After-put_run-p) → c.put_run-p.result + 12 ≤ length c.put_run-p.new.out
last c =
    let a = c.args in
    let long = put_length c.put_run-p.ensures ∙ c.put_entry.auto.out in
    omega (
      arith,
      c.requires.1,
      c.put_run-p.ensures.next,
      numbers_long a.a a.n a.s.now,
      elements_long a.a a.n a.s.now,
    )

pub put_entry-requires : goal.put_entry-requires
put_entry-requires c = omega (arith, fits (goal.at.put_entry-requires c).Start)

pub put_run-p-requires : goal.put_run-p-requires
put_run-p-requires c =
    (omega (arith, c.requires.0), omega (arith, fits (goal.at.put_run-p-requires c).Start, c.put_entry.auto.out))

pub put_entry-requires-2 : goal.put_entry-requires-2
put_entry-requires-2 c = omega (arith, last (goal.at.put_entry-requires-2 c).After-put_run-p)

pub overflow_add-result : goal.overflow_add-result
overflow_add-result c = omega (arith, last (goal.at.overflow_add-result c).After-put_run-p)

pub returns : goal.returns
returns c =
    numbers_put c.args.a c.args.n c.args.s.now c.put_entry.ensures c.put_run-p.ensures c.put_entry-2.ensures
