-- `types::put_hosts` meets its contract. The invariant is `Hosting`.
use native.Mathlib.Omega.{arith}
use Rattle.types.proofs.layout.aoi.AoiLaws.{hosts_done, host_room, host_on}
use Rattle.types.proofs.layout.aoi.put_hosts.Goals as goal

pub put_bit_host-at-requires : goal.put_bit_host-at-requires
put_bit_host-at-requires c =
    let inv = c.loop-i.invariant in (
      omega (arith, inv.room, c.loop-i-test.true),
      (omega (arith, inv.room, c.loop-i-test.true), host_room inv c.loop-i-test.true),
    )

pub overflow_add-at : goal.overflow_add-at
overflow_add-at c =
    omega (
      arith,
      c.put_bit_host-at.ensures.long,
      host_room c.loop-i.invariant
          c.loop-i-test.true,
    )

pub loop-i-preserved : goal.loop-i-preserved
loop-i-preserved c =
    host_on c.loop-i.invariant c.loop-i-test.true
    c.put_bit_host-at.ensures

pub returns : goal.returns
returns c = hosts_done c.loop-i.invariant c.loop-i-test.false
