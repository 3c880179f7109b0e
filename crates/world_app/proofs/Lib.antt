pub mod Told
pub mod Ranges
pub mod Found
pub mod Noted
pub mod Known
pub mod Onward
pub mod Moments
