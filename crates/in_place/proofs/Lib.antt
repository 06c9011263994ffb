pub mod Finishing
pub mod Storing
pub mod Running
