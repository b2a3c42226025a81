pub mod blocks
pub mod sequences
pub mod stretches
pub mod values
