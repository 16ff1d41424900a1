pub mod Stages
pub mod Turns
pub mod Waited
