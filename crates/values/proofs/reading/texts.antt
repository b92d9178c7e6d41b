-- The laws that strings use.
pub mod TextLaws
