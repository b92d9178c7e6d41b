-- `types::put_enables` meets its contract: two parts, one after the other.
use Rattle.std.proofs.Common.{◌+◌, refl}
use Rattle.types.specs.layout.Structs.{named, names_of, enable_in, enable_out, enable_at}
use Rattle.types.proofs.layout.aoi.AoiLaws.{two_put}
use Rattle.types.proofs.layout.aoi.put_enables.Goals as goal

pub returns : goal.returns
unfolding names_of
returns c =
    two_put (named enable_in (enable_at 0)) (named enable_out (enable_at 1)) c.args.row c.args.place refl
    (rw c.enable.ensures at c.put_part.ensures.rows) c.put_part.ensures.names (c.args.place + 8) refl
    (rw c.enable-2.ensures at c.put_part-2.ensures.rows) c.put_part-2.ensures.names
