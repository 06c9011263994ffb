pub mod Format
pub mod Write
pub mod Read
pub mod Answers
pub mod Parts
