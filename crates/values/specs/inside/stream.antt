-- Inner definitions for document 01, "Value stream": entries and their bytes, the form of a stream, how long it is.
pub mod Counting
pub mod Entry
pub mod Laying
pub mod Steps
