pub mod acceptance
pub mod growth
pub mod layout
pub mod pairs
pub mod refinement
