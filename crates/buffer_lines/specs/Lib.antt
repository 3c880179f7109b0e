pub mod Heads
pub mod Keeping
pub mod Parts
pub mod Stamps
