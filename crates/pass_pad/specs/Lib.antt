pub mod Padded
pub mod Pad
pub mod Plan
