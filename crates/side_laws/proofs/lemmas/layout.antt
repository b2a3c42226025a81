pub mod Laying
pub mod Bound
pub mod Sound
pub mod Straight
pub mod Plans
