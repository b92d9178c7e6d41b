-- The laws that runs of numbers use.
pub mod NumberLaws
pub mod RunLaws
