pub mod Accesses
pub mod Allocating
pub mod Finding
pub mod Freeing
pub mod Holds
pub mod Lists
pub mod Live
pub mod Storing
