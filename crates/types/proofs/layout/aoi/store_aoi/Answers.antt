-- `types::store_aoi` meets its contract: hosts, EnableIn and EnableOut, and the declared members, one after the other.
use Rattle.std.proofs.Common.{◌+◌, arith}
use Rattle.types.specs.inside.layout.Passes.{PartsPut}
use Rattle.types.specs.layout.Structs.{enable_parts}
use Rattle.types.proofs.layout.aoi.AoiStoreLaws.{rows_room, names_room, rest_storable, third, all_rows, all_names}
use Rattle.types.proofs.layout.aoi.store_aoi.Goals as goal
use Rattle.types.proofs.layout.aoi.store_aoi.Goals.{After-put_enables-third}

-- EnableIn and EnableOut, after as many rows as there are hosts
enables : (c : After-put_enables-third)
    → PartsPut enable_parts (c.args.row + c.args.h) c.put_hosts-second.result c.put_hosts-second.new.members
    c.put_hosts-second.new.names c.put_enables-third.new.members c.put_enables-third.new.names
    c.put_enables-third.result
enables c = c.put_enables-third.ensures

pub put_hosts-second-requires : goal.put_hosts-second-requires
put_hosts-second-requires c = (omega (arith, rows_room c.requires), omega (arith, names_room c.requires))

pub put_enables-third-requires : goal.put_enables-third-requires
put_enables-third-requires c = (
  omega (arith, rows_room c.requires),
  omega (arith, names_room c.requires, c.put_hosts-second.ensures.next),
)

pub aoi_start-requires : goal.aoi_start-requires
aoi_start-requires c = omega (arith, rows_room c.requires)

pub store-requires : goal.store-requires
store-requires c =
    rw c.aoi_start.ensures
    (rest_storable c.requires _
    (third c.requires c.put_hosts-second.ensures (enables (goal.at.store-requires c).After-put_enables-third)))

pub returns : goal.returns
returns c =
    let enabled = enables (goal.at.returns c).After-put_enables-third in
    let s = rw c.aoi_start.ensures at c.store.ensures in
    record {
      rows = all_rows c.requires c.put_hosts-second.ensures enabled s.rows;
      names = all_names c.requires c.put_hosts-second.ensures enabled s.names;
    }
