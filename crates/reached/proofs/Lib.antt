pub mod Tables
pub mod Reaching
pub mod Worked
pub mod Readings
pub mod Values
pub mod Door
pub mod Resets
