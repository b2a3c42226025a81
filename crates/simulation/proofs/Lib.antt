pub mod Prefix
pub mod After
pub mod Refinement
pub mod Simulation
pub mod Tracks
