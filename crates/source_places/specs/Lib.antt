pub mod Place
pub mod Search
pub mod Sign
pub mod Standing
