-- The laws that every crate cites: numbers, runs of stores and parts of lists, words, bits, tests.
pub mod ArithLaws
pub mod Lists
pub mod WordLaws
pub mod BitLaws
pub mod StampLaws
pub mod TestLaws
