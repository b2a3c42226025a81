pub mod Paired
pub mod Passage
pub mod Sided
pub mod Straight
pub mod Laid
pub mod Side
pub mod Laws
pub mod Row
