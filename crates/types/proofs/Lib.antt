-- Laws over the definitions of crate `types`: a folder for each paragraph of document 01, and beside a module's proofs
-- the laws that serve it alone.
pub mod Face
