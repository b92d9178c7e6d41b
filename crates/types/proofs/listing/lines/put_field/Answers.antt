-- `types::put_field` meets its contract: the bytes, then the one that ends them.
use Rattle.types.proofs.listing.lines.ListingLaws.{fits_first, fits_then, added_both}
use Rattle.types.proofs.listing.lines.put_field.Goals as goal

pub put_text-next-requires : goal.put_text-next-requires
put_text-next-requires c = fits_first _ _ c.requires

pub put_stop-requires : goal.put_stop-requires
put_stop-requires c =
    fits_then c.requires c.put_text-next.ensures

pub returns : goal.returns
returns c =
    added_both c.put_text-next.ensures c.put_stop.ensures
