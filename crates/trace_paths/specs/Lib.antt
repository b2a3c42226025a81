pub mod Path
pub mod Taken
pub mod Order
pub mod Ranks
pub mod Fits
pub mod Meetings
pub mod Walked
pub mod Laws
