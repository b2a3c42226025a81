pub mod Fits
pub mod Homes
pub mod Image
pub mod Items
pub mod Laid
pub mod Passing
pub mod Reach
