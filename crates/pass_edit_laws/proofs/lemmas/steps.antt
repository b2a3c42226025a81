pub mod Shapes
pub mod Steps
pub mod Moves
pub mod Attempts
pub mod Refinement
