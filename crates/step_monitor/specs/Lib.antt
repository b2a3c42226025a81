pub mod Laws
pub mod MonitorView
pub mod Spots
pub mod Stands
pub mod Went
pub mod Words
