pub mod Arrivals
pub mod Blocks
pub mod Bursts
pub mod Calls
pub mod Executions
pub mod Starts
