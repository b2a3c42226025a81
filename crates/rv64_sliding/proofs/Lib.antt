pub mod InPlace
pub mod Keeping
pub mod Sliding
