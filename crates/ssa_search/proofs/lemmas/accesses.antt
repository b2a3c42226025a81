pub mod Within
pub mod Tracking
pub mod Labels
pub mod Heads
pub mod Passing
