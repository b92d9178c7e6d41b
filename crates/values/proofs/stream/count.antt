-- The laws that the count of a reading uses.
pub mod CountRows
