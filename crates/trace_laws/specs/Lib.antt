pub mod Laws
pub mod Trace
pub mod acceptance
pub mod growth
pub mod lines
pub mod refinement
pub mod Row
