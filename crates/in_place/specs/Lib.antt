pub mod FirstEvents
pub mod Parts
