pub mod Selecting
pub mod Reaching
pub mod Deciding
pub mod Existing
