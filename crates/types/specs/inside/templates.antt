-- Inner definitions for document 01, "Template and handle": a template's bytes and length, the handle, waste.
pub mod Pieces
pub mod Sink
pub mod Waste
