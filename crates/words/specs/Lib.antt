pub mod Words
pub mod Range
pub mod Answer
pub mod Bits
