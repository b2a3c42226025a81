pub mod Firsts
pub mod Finding
pub mod Lining
pub mod Wanting
