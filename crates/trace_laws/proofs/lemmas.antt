pub mod acceptance
pub mod growth
pub mod lines
pub mod refinement
