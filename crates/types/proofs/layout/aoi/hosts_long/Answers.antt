-- `types::hosts_long` meets its contract: the names of all are those so far and those that are left.
use Rattle.types.proofs.layout.aoi.AoiLaws.{adding_done, adding_on}
use Rattle.types.proofs.layout.aoi.hosts_long.Goals as goal

pub loop-i-preserved : goal.loop-i-preserved
loop-i-preserved c = adding_on c.loop-i.invariant c.loop-i-test.true c.bit_host_long-long.ensures

pub returns : goal.returns
returns c = adding_done c.loop-i.invariant c.loop-i-test.false
