pub mod AtLabel
pub mod Entries
pub mod Paths
pub mod Ranking
pub mod Seen
pub mod Surveying
