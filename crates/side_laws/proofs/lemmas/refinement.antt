pub mod Tracking
pub mod Locking
pub mod Making
pub mod Together
pub mod Refining
