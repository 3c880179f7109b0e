pub mod ChannelEdits
mod Edits
pub mod Indexes
pub mod Keys
mod QueryEdits
pub mod Rising
mod Search
mod Counts
