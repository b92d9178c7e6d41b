-- The laws that a build uses.
pub mod BuildLaws
pub mod ScratchLaws
