-- Definitions for document 01, "Value stream": entries and their bytes, the form of a stream, how long it is.
pub mod Decode
pub mod Entry
pub mod Form
pub mod Stream
