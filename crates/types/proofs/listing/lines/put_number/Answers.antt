-- `types::put_number` meets its contract: the digits, then the byte that ends them.
use Rattle.types.proofs.listing.lines.ListingLaws.{fits_first, fits_then, added_both}
use Rattle.types.proofs.listing.lines.put_number.Goals as goal

pub put_decimal-next-requires : goal.put_decimal-next-requires
put_decimal-next-requires c = fits_first _ _ c.requires

pub put_stop-requires : goal.put_stop-requires
put_stop-requires c =
    fits_then c.requires c.put_decimal-next.ensures

pub returns : goal.returns
returns c =
    added_both c.put_decimal-next.ensures c.put_stop.ensures
