-- Definitions for document 01, "Order of building": member types that are known, turns, rounds, the whole build.
pub mod Build
pub mod Order
pub mod Ordering
pub mod Resolve
pub mod Rounds
pub mod Turns
