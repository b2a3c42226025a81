pub mod Blocks
pub mod Entries
pub mod Live
pub mod Stored
