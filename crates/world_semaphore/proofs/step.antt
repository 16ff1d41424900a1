-- Each move is a legal step.
pub mod Rows
pub mod Debts
pub mod Sizes
pub mod Here
pub mod Idle
pub mod Owns
pub mod Acting
pub mod AtOnce
pub mod Stepping
