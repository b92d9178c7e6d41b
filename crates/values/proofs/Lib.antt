-- Laws over the definitions of crate `values`: a folder for each paragraph of document 01, beside a module's proofs the
-- laws that serve it alone, and here what spans the paragraphs.
pub mod Face
pub mod SaidLaws
