-- What each command does, a value each.
pub mod Assemble
pub mod Check
pub mod Demo
pub mod Emit
pub mod Execute
pub mod Interp
pub mod Json
pub mod Link
pub mod List
pub mod Monitor
pub mod Passes
pub mod Record
pub mod Run
pub mod Text
pub mod Wrap
