pub mod fresh_names
pub mod matching
