pub mod CanBeMade
pub mod Edited
pub mod Each
