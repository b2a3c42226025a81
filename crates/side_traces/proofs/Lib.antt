pub mod AllExits
pub mod Bounding
pub mod Inside
pub mod Made
pub mod Names
pub mod OneExit
pub mod Retargeting
pub mod Splicing
