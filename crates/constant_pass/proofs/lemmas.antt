pub mod constants
