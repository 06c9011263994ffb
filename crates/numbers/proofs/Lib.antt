pub mod Places
pub mod Enough
pub mod Only
pub mod Shortest
