-- The laws that the checks of members use.
pub mod CheckLaws
