pub mod Laid
pub mod Form
pub mod Accepted
