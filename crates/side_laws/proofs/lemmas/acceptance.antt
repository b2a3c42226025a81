pub mod Walking
pub mod Accepting
