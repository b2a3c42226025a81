pub mod Adding
pub mod Bits
pub mod Words
pub mod Filling
