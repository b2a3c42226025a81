pub mod Const
pub mod Edit
pub mod Folded
pub mod Items
pub mod constants
