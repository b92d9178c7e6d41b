-- Inner definitions for document 01, "Normal image": an image that holds the same values and nothing else.
pub mod InPlace
pub mod Placed
