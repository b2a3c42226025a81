pub mod Listed
pub mod Spliced
pub mod Fresh
