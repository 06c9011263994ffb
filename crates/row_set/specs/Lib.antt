pub mod Forming
pub mod Parts
