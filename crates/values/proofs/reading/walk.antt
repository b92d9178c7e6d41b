-- The laws that the walk of a reading uses.
pub mod ReadLaws
