pub mod Keeping
pub mod Clock
pub mod Framed
pub mod Heads
pub mod Parts
pub mod Stamped
