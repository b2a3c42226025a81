pub mod Plan
pub mod Spliced
pub mod Lines
pub mod Marked
pub mod Widening
pub mod Narrowing
