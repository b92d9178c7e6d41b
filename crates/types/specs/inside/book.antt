-- Inner definitions for document 01, "Declaration book": the book's entries, the rule of names, declared members.
pub mod Contents
pub mod Decls
