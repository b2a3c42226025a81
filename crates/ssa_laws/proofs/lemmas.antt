pub mod inserted_copies
pub mod layout
pub mod live_entries
pub mod reaching_definitions
