pub mod Checking
pub mod Few
