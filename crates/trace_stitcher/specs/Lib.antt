pub mod Inserted
pub mod Legs
pub mod Sources
pub mod Stops
pub mod fresh_names
pub mod matching
