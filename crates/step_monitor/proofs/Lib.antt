pub mod Absolute
pub mod Marks
pub mod Passing
pub mod Standing
pub mod Stopping
pub mod Values
