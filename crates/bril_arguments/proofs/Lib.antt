pub mod Faults
pub mod IntWords
pub mod Letters
pub mod Outcomes
pub mod Spelled
