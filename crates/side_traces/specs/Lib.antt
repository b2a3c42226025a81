pub mod Exits
pub mod Made
pub mod Names
pub mod Rows
