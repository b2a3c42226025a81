pub mod Items
pub mod Sweep
pub mod Layout
pub mod Rows
pub mod Names
