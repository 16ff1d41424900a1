pub mod Roles
pub mod Tally
pub mod Machine
pub mod Acts
pub mod Ranks
pub mod Solo
