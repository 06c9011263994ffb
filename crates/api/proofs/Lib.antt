pub mod Telling
pub mod Anyway
