pub mod Lines
pub mod Report
pub mod StageFaults
pub mod Tallies
pub mod Stats
pub mod Puts
pub mod Told
pub mod Telling
