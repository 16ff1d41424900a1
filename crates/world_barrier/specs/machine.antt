pub mod Roles
pub mod Waits
pub mod Ranks
pub mod Machine
