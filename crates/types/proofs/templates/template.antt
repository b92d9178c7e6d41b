-- The laws that the walk over a template uses.
pub mod WalkLaws
