-- `types::measure_aoi` meets its contract.
use native.Mathlib.Omega.{arith}
use mathlib.Core.Path.{◌∙◌}
use Rattle.types.specs.inside.layout.Passes.{measured_aoi}
use Rattle.types.specs.layout.Structs.{aoi_hosts}
use Rattle.types.proofs.layout.Measuring.{from_hosts}
use Rattle.types.proofs.layout.aoi.measure_aoi.Goals as goal

pub measure-requires : goal.measure-requires
measure-requires c =
    rw c.aoi_start.ensures
    (from_hosts c.requires.0 c.requires.1
    (omega (arith, c.hosts_for-h.ensures, c.count_bools.ensures.most))
    c.hosts_long.ensures.most)

pub returns : goal.returns
unfolding measured_aoi aoi_hosts
returns c =
    c.measure.ensures
    ∙ rw (
      c.aoi_start.ensures,
      c.hosts_long.ensures.is,
      c.hosts_for-h.ensures,
      c.count_bools.ensures.is,
    )
