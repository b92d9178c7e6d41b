-- The laws that a turn uses.
pub mod TurnLaws
