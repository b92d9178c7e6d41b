-- Document 01, "Reference cases": those marked P, and a few more, by computation.
pub mod Normal
pub mod Reading
pub mod Reference
pub mod Tables
pub mod Texts
pub mod Writing
