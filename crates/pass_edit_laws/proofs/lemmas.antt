pub mod acceptance
pub mod labels
pub mod names
pub mod numbers
pub mod plan
pub mod steps
pub mod walks
