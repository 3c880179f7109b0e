pub mod ChannelNames
pub mod Counting
pub mod Deeds
pub mod NumberLemmas
pub mod Separators
pub mod Seams
pub mod Standing
pub mod PassNames
