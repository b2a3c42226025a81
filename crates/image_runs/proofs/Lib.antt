pub mod Demos
pub mod Listings
pub mod Pieces
pub mod Runs
