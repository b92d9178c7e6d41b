-- Inner definitions for document 01, "Layout": where members go; UDTs, AOIs, strings, the predefined types.
pub mod Decimals
pub mod HostNames
pub mod Passes
pub mod Placing
pub mod Predefined
pub mod Structs
