pub mod Answered
pub mod Buffers
pub mod Given
pub mod Plain
pub mod Seen
pub mod Unwritten
