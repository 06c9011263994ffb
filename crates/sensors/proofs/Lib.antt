pub mod Gather
pub mod Quiet
pub mod Passing
