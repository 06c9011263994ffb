pub mod Writing
pub mod Walking
pub mod Reading
pub mod Descriptors
pub mod Alike
pub mod Exact
pub mod Answering
