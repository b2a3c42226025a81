pub mod Endings
pub mod PointValues
pub mod Sizes
pub mod Stopping
pub mod Systems
