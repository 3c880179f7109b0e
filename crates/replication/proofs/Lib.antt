pub mod Appends
pub mod Asking
pub mod Committing
pub mod Places
