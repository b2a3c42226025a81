pub mod Sources
pub mod Sweeping
