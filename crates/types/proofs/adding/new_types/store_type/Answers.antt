-- `types::store_type` meets its contract: as an AOI, or as a UDT.
use Rattle.types.proofs.adding.AddLaidLaws.{storable_aoi, storable_udt, hosts_counted}
use Rattle.types.proofs.adding.new_types.store_type.Goals as goal

pub store_aoi-requires : goal.store_aoi-requires
store_aoi-requires c =
    storable_aoi c.requires c.if-new.true
    (hosts_counted c.count_bools.ensures c.hosts_for-h.ensures)

pub returns-then-new : goal.returns-then-new
returns-then-new c = rw c.if-new.true c.store_aoi.ensures

pub store_udt-requires : goal.store_udt-requires
store_udt-requires c =
    storable_udt c.requires c.if-new.false

pub returns-else-new : goal.returns-else-new
returns-else-new c = rw c.if-new.false c.store_udt.ensures
