-- The laws that the check of structures uses.
pub mod CheckLaws
pub mod CheckRows
