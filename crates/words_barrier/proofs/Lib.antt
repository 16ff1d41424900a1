pub mod Flags
pub mod Keeps
pub mod Allowed
pub mod Holding
pub mod Wakeups
