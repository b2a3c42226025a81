pub mod Table
pub mod Line
pub mod Tokens
pub mod Listing
pub mod Reading
pub mod Laws
