-- `types::store_udt` meets its contract.
use Rattle.types.specs.inside.layout.Passes.{udt_parts}
use Rattle.types.proofs.layout.udt.store_udt.Goals as goal

pub store-requires : goal.store-requires
store-requires c =
    rw c.udt_start.ensures c.requires

pub returns : goal.returns
unfolding udt_parts
returns c = rw c.udt_start.ensures at c.store.ensures
