pub mod Numbers
pub mod Entering
pub mod Widths
