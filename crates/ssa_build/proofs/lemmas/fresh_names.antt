pub mod Texts
pub mod Differing
