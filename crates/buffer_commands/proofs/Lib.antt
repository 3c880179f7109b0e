pub mod Fronts
pub mod Limits
pub mod Channels
