mod Numbers
pub mod Boxes
