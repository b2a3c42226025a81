pub mod Passages
pub mod Placed
pub mod Runs
pub mod Unique
pub mod Deciding
pub mod Existing
pub mod One
