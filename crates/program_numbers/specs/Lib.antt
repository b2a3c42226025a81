pub mod Cost
pub mod Entries
pub mod Laws
pub mod ProgramNumbers
