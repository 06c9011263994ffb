pub mod Values
pub mod Events
pub mod Writing
pub mod Whole
