pub mod Calls
pub mod Cores
pub mod Going
pub mod Steps
pub mod Stretches
