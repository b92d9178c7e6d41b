-- The laws that atomics and strings made normal use.
pub mod LeafMade
