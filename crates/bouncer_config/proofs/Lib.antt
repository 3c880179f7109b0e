pub mod Places
pub mod Told
pub mod Kept
pub mod Missed
pub mod Setups
