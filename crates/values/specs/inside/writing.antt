-- Inner definitions for document 01, "Writing": a stream's values are set in a tag's bytes.
pub mod Bools
pub mod Effects
pub mod Limits
pub mod Passes
pub mod Rows
pub mod Written
