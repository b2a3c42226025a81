pub mod Among
pub mod Arcs
pub mod Flow
pub mod Greatest
pub mod Points
pub mod Liveness
