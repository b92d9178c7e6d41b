-- The laws that atomics and arrays of them use.
pub mod AtomicRunLaws
pub mod BitRunLaws
