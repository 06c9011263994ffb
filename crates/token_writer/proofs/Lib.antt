pub mod Passes
pub mod Arms
pub mod RoundTrip
pub mod Functions
