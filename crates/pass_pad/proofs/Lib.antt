pub mod Refines
pub mod Accepted
pub mod Made
