pub mod Flow
pub mod Laws
pub mod Lowered
pub mod Meaning
pub mod Numbering
