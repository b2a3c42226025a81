pub mod Lines
pub mod Names
pub mod Traced
pub mod Bound
pub mod Laws
