pub mod Operands
pub mod Accepted
