pub mod World
pub mod Laws
pub mod Told
pub mod Groups
pub mod Handing
