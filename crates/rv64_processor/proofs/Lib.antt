pub mod Cells
pub mod Moving
pub mod Pointers
pub mod Regions
pub mod Stretches
pub mod Tries
