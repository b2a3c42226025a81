pub mod Canonical
pub mod Parse
pub mod Reading
pub mod Seen
pub mod Table
pub mod Terminals
