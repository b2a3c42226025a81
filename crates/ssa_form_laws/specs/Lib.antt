pub mod form
pub mod laid
pub mod numbers
