pub mod Assigned
pub mod Decodings
pub mod Division
pub mod Encodings
pub mod Live
pub mod Runs
pub mod Slid
pub mod Words
