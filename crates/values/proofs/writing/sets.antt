-- The laws that setting atomics and texts uses.
pub mod SetLaws
pub mod SetLeafLaws
pub mod SetRunLaws
