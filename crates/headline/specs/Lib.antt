pub mod Tower
pub mod Promises
pub mod Running
