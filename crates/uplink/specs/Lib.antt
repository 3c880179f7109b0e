pub mod Sending
pub mod Sessions
pub mod Calls
pub mod Orders
