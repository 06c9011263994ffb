pub mod Flattening
pub mod Whole
pub mod RoundTrips
pub mod Room
