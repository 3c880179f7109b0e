pub mod Paths
pub mod Plans
pub mod Warnings
