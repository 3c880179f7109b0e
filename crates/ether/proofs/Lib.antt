mod Changing
mod Changes
mod Stowing
mod Knowing
mod Steps
mod Ticks
mod Cutting
mod Passes
mod Keys
mod Moments
pub mod Gathering
pub mod Heard
