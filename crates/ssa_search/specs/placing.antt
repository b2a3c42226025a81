pub mod Wanted
pub mod Blocks
