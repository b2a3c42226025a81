pub mod code
pub mod fresh_names
pub mod operands
pub mod sources
pub mod tree
pub mod trivial_phis
