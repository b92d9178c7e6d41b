-- `types::put_atomic` meets its contract: the name that stands in the row.
use Rattle.std.proofs.Common.{sym}
use lib.Seq.{length-take-le}
use Rattle.types.proofs.atomics.AtomicLaws.{row_name, row_long}
use Rattle.types.proofs.listing.lines.put_atomic.Goals as goal

pub slice_bounds-name-end : goal.slice_bounds-name-end
slice_bounds-name-end c = row_long c.args.a c.row-long.ensures

pub slice_bounds-put_field-end : goal.slice_bounds-put_field-end
slice_bounds-put_field-end c = sym (length-take-le _ _ (row_long c.args.a c.row-long.ensures))

pub put_field-requires : goal.put_field-requires
put_field-requires c = rw (row_name c.args.a c.row-long.ensures) c.requires

pub returns : goal.returns
returns c = rw (row_name c.args.a c.row-long.ensures) at c.put_field.ensures
