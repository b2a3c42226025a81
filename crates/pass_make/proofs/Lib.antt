pub mod Each
pub mod Functions
pub mod Bounds
pub mod Told
pub mod Marks
pub mod Taking
