pub mod Measures
pub mod Repairs
pub mod Conflicts
pub mod Others
pub mod Sending
pub mod Changes
pub mod Joining
pub mod Same
