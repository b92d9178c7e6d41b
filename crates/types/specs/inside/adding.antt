-- Inner definitions for document 01, "Refusal numbers", one type of the book: ids, the checks of its members, its room,
-- its rows.
pub mod Add
pub mod Checks
pub mod Ids
