mod Seating
pub mod New
pub mod Lengths
mod Appending
mod Taken
