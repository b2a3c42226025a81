pub mod Refinement
