pub mod Renewed
pub mod Moved
pub mod Bounds
pub mod Lists
