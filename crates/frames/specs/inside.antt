-- Where a frame lies.
pub mod Reading
