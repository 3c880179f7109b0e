pub mod Replication
pub mod Committed
