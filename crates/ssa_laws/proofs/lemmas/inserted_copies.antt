pub mod Copies
pub mod Renamed
pub mod Refines
pub mod Walks
