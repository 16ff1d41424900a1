pub mod Refusals
pub mod Mutex
pub mod MutexRoles
