pub mod Inputs
pub mod Views
pub mod Own
pub mod Rule
pub mod Merged
pub mod Openings
pub mod Outputs
pub mod Laws
