-- The laws that rows use.
pub mod NestedLaws
