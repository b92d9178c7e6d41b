-- Inner definitions for document 01, "What is ported", "Atomic types": atomics, a type's header, types by their names.
pub mod Atomic
pub mod Lookup
