pub mod Cases
pub mod Next
