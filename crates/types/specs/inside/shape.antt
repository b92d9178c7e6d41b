-- Inner definitions for document 01, "Tag shape": a tag's type, lengths, elements and bytes, and its symbol type.
pub mod Tags
