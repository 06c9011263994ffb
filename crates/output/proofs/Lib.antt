pub mod Copying
pub mod Filled
