pub mod Elements
pub mod Lengths
pub mod Outcomes
pub mod Splicing
pub mod Marked
pub mod Values
pub mod Widening
pub mod Narrowing
