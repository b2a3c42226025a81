pub mod Leading
pub mod Beside
pub mod Sites
pub mod Silent
pub mod Entering
pub mod Names
pub mod Whole
