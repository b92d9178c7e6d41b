-- The laws of crate `values` that the crates above it cite.
pub use Rattle.values.proofs.reading.ReadingLaws.{read_short}
