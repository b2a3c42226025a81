pub mod Addresses
pub mod MemoryView
pub mod Pc
pub mod Pointers
pub mod ProcessorView
pub mod RegionView
pub mod Runs
