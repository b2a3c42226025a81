pub mod Fresh
pub mod Unssaed
pub mod Unssa
