pub mod Flags
pub mod Agree
pub mod Strike
pub mod Isolation
pub mod History
pub mod Condition
pub mod Corollaries
pub mod Examples
