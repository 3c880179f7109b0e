pub mod Renewed
pub mod Openings
pub mod Periods
pub mod Running
pub mod Renewals
pub mod Clients
