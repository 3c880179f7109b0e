pub mod Spelling
pub mod SetupCodec
