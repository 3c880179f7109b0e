pub mod Waiting
pub mod Sound
pub mod Handing
