pub mod Faults
pub mod Headers
pub mod Counted
