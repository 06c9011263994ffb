pub mod Answering
pub mod Arms
