pub mod Items
pub mod Entering
pub mod Dominance
pub mod Made
pub mod Resolving
pub mod Solved
pub mod Types
pub mod Tabled
