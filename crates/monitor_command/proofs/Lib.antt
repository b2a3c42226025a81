pub mod Calls
pub mod Carrying
pub mod Entries
pub mod Marking
pub mod Pieces
pub mod Total
pub mod WordCounts
