pub mod Wraps
pub mod Quotients
pub mod IntText
pub mod PlainText
