-- The laws that waste uses.
pub mod WasteLaws
