pub mod Sight
pub mod Recorded
pub mod Passings
pub mod Standing
pub mod Counts
pub mod Kept
