pub mod Recording
pub mod Tearing
