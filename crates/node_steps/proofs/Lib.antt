pub mod Hearing
pub mod Planning
