-- Definitions for document 01, "Template and handle": a template's bytes and length, the handle, waste.
pub mod Handle
pub mod Template
pub mod Waste
