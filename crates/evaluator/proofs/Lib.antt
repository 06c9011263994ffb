pub mod Walk
pub mod Mentions
pub mod Formed
