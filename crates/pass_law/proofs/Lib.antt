pub mod Same
pub mod Growing
pub mod Running
pub mod Chaining
pub mod Equations
