-- The laws that the row readers for any number use.
pub mod PastLaws
pub mod RowWords
