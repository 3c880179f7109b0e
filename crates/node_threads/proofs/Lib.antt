pub mod Home
pub mod Crew
pub mod Opened
mod HomeMarked
pub mod Started
mod Going
mod Inflows
mod Waited
mod Waiting
mod Counted
mod Covered
mod Taken
mod GivenDone
mod Asked
mod Gathered
mod Seen
mod Told
mod Telling
mod Exits
mod Crossing
mod Fated
mod Acted
mod Serving
