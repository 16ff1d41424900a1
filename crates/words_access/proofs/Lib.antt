pub mod Flags
pub mod Keeps
pub mod Allowed
pub mod Wakeups
pub mod Holding
pub mod Beside
pub mod Duties
