-- Inner definitions for document 01, "Declaration book", the tables that hold what was built, and their rows.
pub mod Defs
pub mod Lent
pub mod Registry
