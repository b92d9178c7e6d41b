-- Laws for document 01, "Declaration book": the book's entries, the rule of names, declared members.
pub mod BookLaws
pub mod DeclLaws
pub mod NameLaws
pub mod SoundLaws
