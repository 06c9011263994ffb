pub mod Form
pub mod Kinds
pub mod Parts
pub mod Flat
