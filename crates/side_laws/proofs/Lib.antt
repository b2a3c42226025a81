pub mod Made
pub mod Numbers
pub mod Shipped
pub mod lemmas
