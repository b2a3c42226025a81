pub mod Named
pub mod NamedPlan
pub mod Renaming
