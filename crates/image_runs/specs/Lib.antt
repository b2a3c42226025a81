pub mod Demo
pub mod Machines
