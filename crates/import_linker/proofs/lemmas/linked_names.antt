pub mod Being
pub mod Differing
pub mod Faultless
pub mod Spelling
