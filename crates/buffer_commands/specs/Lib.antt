pub mod Settings
pub mod Spellings
pub mod ActionCodec
pub mod CommandCodec
