pub mod Allocation
pub mod Arcs
pub mod Marks
pub mod Placement
pub mod Registers
pub mod Spans
pub mod Tables
