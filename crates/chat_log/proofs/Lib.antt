pub mod Calendar
pub mod Ends
pub mod Obeyed
pub mod Shown
pub mod Adopting
pub mod Comes
pub mod Told
