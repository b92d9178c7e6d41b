-- What the contracts of program `cases` cite.
pub mod Expected
