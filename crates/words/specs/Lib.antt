-- What loads answer, what stores write, and a list of bytes seen as bits.
pub mod Words
pub mod Bits
