pub mod Stitched
pub mod Attempts
pub mod Laws
