pub mod Faults
pub mod Lines
pub mod Fold
pub mod Fed
pub mod Digits
