pub mod Seats
pub mod Latest
pub mod Events
