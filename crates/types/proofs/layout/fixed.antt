-- The laws that the layouts use which no book declares.
pub mod FixedLaws
