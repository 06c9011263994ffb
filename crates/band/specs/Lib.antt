pub mod Rows
pub mod Resets
pub mod Parts
pub mod Directions
