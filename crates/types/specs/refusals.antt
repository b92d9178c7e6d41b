-- Definitions for document 01, "Refusal numbers": what a call says, by number and place.
pub mod Given
pub mod Refusal
pub mod Said
pub mod Words
