pub mod Lists
pub mod Ticks
pub mod Columns
pub mod Rows
pub mod Spliced
pub mod Refusals
pub mod Parts
