pub mod Color
pub mod Colors
pub mod Growing
pub mod Late
pub mod LiveWords
pub mod Pairs
