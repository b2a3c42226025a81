pub mod Readers
pub mod BackArcs
pub mod Law
pub mod Sets
pub mod Rows
pub mod Functions
