pub mod Plans
pub mod Laws
pub mod Looks
pub mod Sessions
pub mod Handing
pub mod Joining
