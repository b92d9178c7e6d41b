-- The laws that the second pass of a layout uses.
pub mod StoreOneLaws
pub mod Storing
