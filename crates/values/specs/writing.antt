-- Definitions for document 01, "Writing": a stream's values are set in a tag's bytes.
pub mod Effects
pub mod Writing
pub mod Written
