-- Each move is a legal step.
pub mod Rows
pub mod Here
pub mod Idle
pub mod Owns
pub mod Acting
pub mod AtOnce
pub mod Tellers
pub mod Stepping
