pub mod Decimal
pub mod Putting
pub mod Rows
pub mod Short
pub mod Whole
