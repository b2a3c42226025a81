pub mod Existing
pub mod Made
pub mod Numbers
pub mod Unique
pub mod lemmas
pub mod Shipped
