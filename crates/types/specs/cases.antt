-- Document 01, "Reference cases": those marked P, and a few more, by computation.
pub mod Layouts
pub mod Listing
pub mod Shapes
