pub mod Roles
pub mod Ranks
pub mod Machine
