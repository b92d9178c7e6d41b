-- Inner definitions for document 01, "Order of building": member types that are known, turns, rounds, the whole build.
pub mod Build
pub mod OneRound
pub mod Resolve
pub mod Turns
