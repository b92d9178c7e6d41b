-- `values::put_bits` meets its contract.
use Prim.Native.Nat.{◌+◌, ◌*◌, ◌-◌, ◌≤◌}
use native.Mathlib.Omega.{arith}
use lib.ListN.{length}
use Rattle.values.proofs.reading.atomics.BitRunLaws.{no_byte, byte_more, bits_long, bits_put}
use Rattle.values.proofs.reading.atomics.put_bits.Goals as goal
use Rattle.values.proofs.reading.atomics.put_bits.Goals.{At-loop-x, Start}

-- all bits and the brackets have room
fits : (c : Start)
    → c.args.at + 12 * (8 * length c.args.s.now + 2) ≤ length c.args.out.now
fits c = omega (arith, c.requires, bits_long c.args.s.now (8 * length c.args.s.now))

-- what is left of them in the loop
room : (c : At-loop-x)
    → c.loop-x.p + 96 * (length c.args.s.now - c.loop-x.x-index) + 12 ≤ length c.loop-x.out
room c =
    omega (
      arith,
      c.requires,
      bits_long c.args.s.now (8 * length c.args.s.now),
      c.put_entry.auto.out,
      c.loop-x.invariant.next,
      c.loop-x.invariant.long,
      c.loop-x.invariant.inside,
    )

pub put_entry-requires : goal.put_entry-requires
put_entry-requires c = omega (arith, fits (goal.at.put_entry-requires c).Start)

pub loop-x-init : goal.loop-x-init
loop-x-init c = no_byte

pub put_eight-requires : goal.put_eight-requires
put_eight-requires c = omega (arith, room (goal.at.put_eight-requires c).At-loop-x)

pub overflow_add-p-in-loop-x : goal.overflow_add-p-in-loop-x
overflow_add-p-in-loop-x c = omega (arith, room (goal.at.overflow_add-p-in-loop-x c).At-loop-x)

pub loop-x-preserved : goal.loop-x-preserved
loop-x-preserved c =
    byte_more c.loop-x.invariant c.loop-x-test.true c.put_eight.ensures

pub put_entry-requires-2 : goal.put_entry-requires-2
put_entry-requires-2 c = omega (arith, room (goal.at.put_entry-requires-2 c).At-loop-x)

pub overflow_add-result : goal.overflow_add-result
overflow_add-result c = omega (arith, room (goal.at.overflow_add-result c).At-loop-x)

pub returns : goal.returns
returns c =
    bits_put c.put_entry.ensures c.loop-x.invariant c.loop-x-test.false
    c.put_entry-2.ensures
