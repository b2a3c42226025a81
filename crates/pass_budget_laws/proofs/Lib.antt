pub mod Existing
pub mod Entries
pub mod Growing
pub mod Keeping
pub mod Shipping
pub mod Costing
pub mod Chaining
pub mod Same
