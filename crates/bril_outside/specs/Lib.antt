pub mod Adapter
pub mod Files
pub mod Memory
pub mod Sink
