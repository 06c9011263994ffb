pub mod Level
pub mod Single
pub mod Turning
pub mod Sound
pub mod Judging
pub mod Parts
