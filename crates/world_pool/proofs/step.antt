-- Each move is a legal step.
pub mod Owns
pub mod Ends
pub mod Acting
pub mod Vain
pub mod AtOnce
pub mod Stepping
