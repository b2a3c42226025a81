pub mod Faults
pub mod Ints
pub mod Spelled
