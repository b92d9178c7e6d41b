-- Definitions for document 01, "Reading": a tag's bytes become a value stream; stored texts.
pub mod Leaf
pub mod Read
pub mod Texts
pub mod Tree
pub mod Trees
