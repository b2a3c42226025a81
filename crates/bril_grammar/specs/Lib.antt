pub mod Fault
pub mod Keyword
pub mod Laws
pub mod Machine
pub mod Pieces
pub mod State
pub mod Terminal
pub mod Written
