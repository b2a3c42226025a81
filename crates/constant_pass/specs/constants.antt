pub mod Known
pub mod Answer
pub mod Ways
pub mod Consistent
pub mod Kept
pub mod Work
