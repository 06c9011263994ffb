pub mod Settling
pub mod Resets
