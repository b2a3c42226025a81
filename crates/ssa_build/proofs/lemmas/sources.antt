pub mod Leaving
pub mod Adding
pub mod Items
pub mod Swept
