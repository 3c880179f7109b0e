pub mod Moments
pub mod Controls
pub mod Texts
pub mod Chats
pub mod Machine
pub mod Logs
