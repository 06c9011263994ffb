pub mod Bounds
pub mod Part
pub mod Progress
