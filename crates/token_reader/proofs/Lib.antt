pub mod Prefix
pub mod Fits
pub mod Numbers
pub mod Again
pub mod Listing
