pub mod Buffered
pub mod MemoryWrites
pub mod SinkWrites
pub mod Stored
