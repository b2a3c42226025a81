pub mod Faults
pub mod Format
pub mod Reading
