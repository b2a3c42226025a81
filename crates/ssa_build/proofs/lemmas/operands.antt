pub mod Needed
pub mod Accepted
