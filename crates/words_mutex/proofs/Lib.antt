pub mod Flags
pub mod Keeps
pub mod Wakeups
pub mod Holding
pub mod Alone
