-- The laws that the lines of a listing use.
pub mod ListingLaws
