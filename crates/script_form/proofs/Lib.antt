pub mod Stands
pub mod Events
pub mod Whole
