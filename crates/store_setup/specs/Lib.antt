pub mod Changes
pub mod FileCodec
pub mod Files
