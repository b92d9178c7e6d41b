-- Inner definitions for document 01, "Reading": a tag's bytes become a value stream; stored texts.
pub mod Images
pub mod Numbers
pub mod Read
pub mod Texts
pub mod Walk
pub mod Walkable
