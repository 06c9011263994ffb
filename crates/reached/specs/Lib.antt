pub mod Reached
pub mod Starred
pub mod Readings
pub mod Values
pub mod Door
pub mod Resets
