pub mod Adding
pub mod Choosing
pub mod Drafting
pub mod Reading
pub mod Running
pub mod Stepping
pub mod Tables
pub mod Typing
