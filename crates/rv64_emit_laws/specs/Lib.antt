pub mod Entered
pub mod Homes
pub mod Laws
pub mod layout
