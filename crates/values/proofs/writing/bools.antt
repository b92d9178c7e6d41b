-- The laws that runs of bools use.
pub mod BoolLaws
pub mod BoolRuns
