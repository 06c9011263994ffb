pub mod Fits
pub mod Sets
pub mod Keeping
pub mod Refused
pub mod Rules
pub mod Thresholds
