-- Each move is a legal step.
pub mod Here
pub mod Due
pub mod Idle
pub mod Owns
pub mod Acting
pub mod Putting
pub mod AtOnce
pub mod Stepping
