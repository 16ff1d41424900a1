pub mod Owners
pub mod Keeps
pub mod Holding
pub mod Wakeups
