pub mod Walks
pub mod Items
pub mod Based
pub mod Accepting
pub mod Under
pub mod Blocks
