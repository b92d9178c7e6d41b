-- The definitions that crate `types` is proved against, a folder for each paragraph of document 01. Those that no
-- promise of a public call stands on are under `inside`.
pub mod adding
pub mod atomics
pub mod book
pub mod cases
pub mod inside
pub mod layout
pub mod listing
pub mod refusals
pub mod rounds
pub mod shape
pub mod tables
pub mod templates
