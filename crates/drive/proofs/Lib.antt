pub mod Settling
pub mod Answers
pub mod Keeping
pub mod Rules
