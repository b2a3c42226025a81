pub mod Entering
pub mod Deepening
pub mod NewItems
pub mod Numbers
