pub mod LiveEntries
pub mod Laws
