pub mod Errors
pub mod Events
pub mod Whole
pub mod Parts
