-- The laws that the call `normal` uses.
pub mod KeptSweepable
pub mod NormalisedLaws
