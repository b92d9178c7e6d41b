-- The laws that the check of atomics and texts uses.
pub mod FitLeafLaws
pub mod FitRunLaws
