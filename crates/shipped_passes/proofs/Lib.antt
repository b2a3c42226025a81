pub mod Boxes
pub mod Budgets
pub mod Making
