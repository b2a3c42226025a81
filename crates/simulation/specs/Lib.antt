pub mod System
pub mod Refinement
pub mod Simulation
pub mod Laws
