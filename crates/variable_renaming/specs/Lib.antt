pub mod Apart
pub mod Classes
pub mod Clashes
pub mod Made
pub mod Renamed
pub mod Shadows
