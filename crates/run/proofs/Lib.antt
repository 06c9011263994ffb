pub mod Taken
pub mod Whole
pub mod Holding
pub mod Reaching
pub mod Leaving
