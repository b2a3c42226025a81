pub mod Accesses
pub mod Entries
