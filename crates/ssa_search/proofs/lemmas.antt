pub mod accesses
pub mod gets
pub mod live_entry_count
pub mod placing
pub mod renaming
