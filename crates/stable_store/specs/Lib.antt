pub mod Faults
pub mod Lists
pub mod ListCodec
pub mod EntryLists
pub mod EntryListCodec
pub mod Changes
pub mod ChangeCodec
pub mod Stores
