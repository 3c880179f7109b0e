pub mod Places
pub mod Targets
