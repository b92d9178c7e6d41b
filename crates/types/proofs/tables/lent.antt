-- The law of storing a whole row of the tables.
pub mod RowLaws
