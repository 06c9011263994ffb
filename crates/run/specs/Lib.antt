pub mod Outcome
pub mod Condition3
pub mod Left
pub mod Reached
pub mod Parts
