pub mod Accesses
pub mod Faults
pub mod Graph
pub mod Laws
pub mod Location
pub mod Reads
pub mod Visits
pub mod Branches
