pub mod Lines
pub mod Decimal
pub mod Listing
pub mod Parts
