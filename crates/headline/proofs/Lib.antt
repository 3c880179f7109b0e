pub mod Asking
pub mod Dones
pub mod Hands
pub mod Marks
pub mod RealTime
mod Cases
pub mod Promised
