-- The laws of crate `types` that the crates above it cite: what tables that our own calls left are known to be, and a
-- few small ones.
pub use Rattle.types.proofs.adding.AddLaws.{every_append}
pub use Rattle.types.proofs.layout.LayoutLaws.{times_one, times_same}
pub use Rattle.types.proofs.layout.StringLaws.{StringRow}
pub use Rattle.types.proofs.refusals.SaidLaws.{said_same, why_same}
pub use Rattle.types.proofs.shape.ShapeLaws.{there_fits}
pub use Rattle.types.proofs.tables.GoodLaws.{row_lies}
pub use Rattle.types.proofs.tables.KeptLaws.{RowIs, TypeRow, build_kept, empty, holds, kept_row, none_kept}
