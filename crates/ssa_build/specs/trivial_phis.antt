pub mod Classes
pub mod Trivial
