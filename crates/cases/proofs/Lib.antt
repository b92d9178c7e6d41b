-- The laws that the proofs of program `cases` cite.
pub mod ExpectedLaws
