pub mod World
pub mod Laws
