pub mod Binary
pub mod Cells
pub mod Kept
pub mod Operands
pub mod Pointers
pub mod Unary
pub mod Words
