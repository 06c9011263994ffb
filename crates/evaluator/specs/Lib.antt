pub mod Value
pub mod Formed
pub mod Parts
