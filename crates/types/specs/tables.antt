-- Definitions for document 01, "Declaration book", the tables that hold what was built, and their rows.
pub mod Defs
pub mod Kept
pub mod Lent
pub mod Limits
pub mod Registry
pub mod Sizes
pub mod There
pub mod TypeWord
