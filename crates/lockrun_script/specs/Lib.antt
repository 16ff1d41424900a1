pub mod Lines
pub mod Inputs
pub mod Verbs
pub mod Commands
pub mod Limits
