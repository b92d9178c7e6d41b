-- The laws that looking a type up uses.
pub mod LookupLaws
