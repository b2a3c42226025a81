pub mod Removable
pub mod Emptied
pub mod Dead
pub mod Work
pub mod Sweep
