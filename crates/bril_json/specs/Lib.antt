pub mod Built
pub mod Canonical
pub mod Form
pub mod Reading
pub mod Steps
