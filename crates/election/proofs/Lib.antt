pub mod Timeouts
pub mod Votes
