pub mod Calm
pub mod Turning
