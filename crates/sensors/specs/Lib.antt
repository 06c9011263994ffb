pub mod Sixteen
pub mod Parts
