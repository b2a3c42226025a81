pub mod Laws
pub mod Stopping
