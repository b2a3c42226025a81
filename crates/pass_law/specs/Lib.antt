pub mod Bounds
pub mod Tallies
pub mod Meaning
pub mod Chains
pub mod Stops
