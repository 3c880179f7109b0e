pub mod Spelling
pub mod CommandCodec
pub mod Numbered
pub mod States
pub mod Hands
