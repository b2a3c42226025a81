pub mod Completeness
pub mod End
