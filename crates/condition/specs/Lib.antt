pub mod History
pub mod Compared
pub mod Condition
pub mod Corollaries
