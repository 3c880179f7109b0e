pub mod Spelling
pub mod CommandCodec
pub mod Sessions
pub mod States
