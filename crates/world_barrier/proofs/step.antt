-- Each move is a legal step.
pub mod Here
pub mod Locks
pub mod Owns
pub mod Idle
pub mod Turns
pub mod OwnRows
pub mod LockRows
pub mod Rows
pub mod Endings
pub mod Telling
pub mod Acting
pub mod AtOnce
pub mod Stepping
