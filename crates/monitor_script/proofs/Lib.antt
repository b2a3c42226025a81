pub mod Cuts
pub mod Faults
pub mod Items
pub mod Orders
