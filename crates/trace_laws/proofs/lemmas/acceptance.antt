pub mod Standing
pub mod Walking
pub mod Blocks
pub mod Placing
pub mod Sorted
pub mod Accepting
pub mod Accepted
