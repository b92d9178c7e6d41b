-- Definitions for document 01, "Layout": where members go; UDTs, AOIs, strings, the predefined types.
pub mod HostNames
pub mod Laid
pub mod Placing
pub mod Predefined
pub mod Structs
