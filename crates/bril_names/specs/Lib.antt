pub mod Faults
pub mod Laws
pub mod Numbering
pub mod Range
