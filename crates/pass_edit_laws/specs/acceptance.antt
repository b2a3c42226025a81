pub mod Stays
pub mod Edited
